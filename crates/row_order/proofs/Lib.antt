pub mod Comparing
pub mod Rising
pub mod Counting
mod Ranking
mod Refining
mod Ordered

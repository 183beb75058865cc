pub mod Placed
pub mod Levels

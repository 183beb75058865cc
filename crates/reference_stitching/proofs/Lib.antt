pub mod Answered
pub mod Standing
pub mod Searching

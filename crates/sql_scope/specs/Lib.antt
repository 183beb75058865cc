pub mod Names
pub mod Steps
pub mod Answers
pub mod Found
pub mod Parts

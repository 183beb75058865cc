pub mod Answers
pub mod Found
pub mod Scopes
pub mod Indexes
pub mod Steps

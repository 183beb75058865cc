pub mod Scopes
pub mod Stepping

pub mod Expected
pub mod Kinds

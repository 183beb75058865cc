pub mod Printing
pub mod Columns
pub mod Queries

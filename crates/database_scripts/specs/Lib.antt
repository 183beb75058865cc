pub mod Columns
pub mod Loads
pub mod Files
pub mod Asks

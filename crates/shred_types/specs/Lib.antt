pub mod Columns
pub mod Under
pub mod Places
pub mod Bags

pub mod Packed
pub mod Columns
pub mod Tables
pub mod Places
pub mod Held

pub mod Under
pub mod Places
pub mod Bags

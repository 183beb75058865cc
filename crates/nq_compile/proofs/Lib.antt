pub mod Spots
pub mod Linking
pub mod Shredding
pub mod Forms
pub mod Queries

pub mod OrderKeys
pub mod Dealing
pub mod Columns
pub mod Making

pub mod Schemes
pub mod FlatNumbers
pub mod Groups
pub mod Walks
pub mod Stitching
pub mod Linked

pub mod Sizes
pub mod Generated

pub mod Shreds
pub mod Reading
pub mod Links
pub mod Texts

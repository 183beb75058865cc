pub mod Trees
pub mod Naming
pub mod Reading

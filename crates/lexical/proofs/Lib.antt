pub mod Fronts
pub mod Literals
pub mod Undoubling

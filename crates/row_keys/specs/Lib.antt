pub mod Keys
pub mod Codes
pub mod Slots
pub mod CodeMaps
pub mod FirstRows

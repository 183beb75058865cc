pub mod Json
pub mod Shapes
pub mod Reading
pub mod Tables
pub mod Cells
pub mod Faults
pub mod Rows

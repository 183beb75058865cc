pub mod Shapes
pub mod Faults
pub mod Columns
pub mod Given
pub mod Judging

pub mod LineSteps
pub mod ColumnSteps
pub mod Pieces
pub mod Characters
pub mod Utf8

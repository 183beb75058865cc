pub mod PackedTexts
pub mod ColumnCells
pub mod ColumnRows
pub mod PlacedCells

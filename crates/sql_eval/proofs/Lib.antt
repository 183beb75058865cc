pub mod Ranking
pub mod Moving
pub mod PlacedKeys
pub mod KeyMeanings
pub mod ColumnRows
pub mod Evaluating
pub mod Yielding

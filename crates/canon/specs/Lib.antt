pub mod Trees
pub mod Sorted
pub mod Texts
pub mod RowTexts

pub mod AllRows
pub mod Ends
pub mod Sorting
pub mod Canonical
pub mod Writing
mod Apart
mod Sorted
mod Typed
mod RowTexts

pub mod Indexes
pub mod Elements
pub mod Spans
pub mod Parts
pub mod Members
pub mod Building

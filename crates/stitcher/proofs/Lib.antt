pub mod MoreParts
pub mod Laid
pub mod Reading
pub mod Stitched
pub mod Grouping
pub mod Ready
pub mod Walking
pub mod Linked
pub mod Homes
pub mod Examples
mod LinkedExamples
mod Witness

pub mod Cutting
pub mod Fronts
pub mod Reading
pub mod Lengths
pub mod Lowering
pub mod LoweringNames
pub mod LoweringLists
pub mod Views

pub mod CellLists
pub mod KeyColumns
pub mod HomesMore
pub mod LayoutFacts
pub mod MoreParts
pub mod Repeats

pub mod Layouts
pub mod Indexes
pub mod IndexLaws
pub mod NaturalKeys
pub mod PlaceLaws
pub mod Levels
pub mod Schemes

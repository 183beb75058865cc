pub mod Contractions
pub mod Depths
pub mod Environments
pub mod Hereditary
pub mod Scopes
pub mod Slots
pub mod Unfolded
pub mod Shapes

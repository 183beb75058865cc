pub mod Fronts
pub mod Lowering
pub mod Symbols
pub mod Trees

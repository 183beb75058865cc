pub mod Names
pub mod Exprs
pub mod Emitted
pub mod Views

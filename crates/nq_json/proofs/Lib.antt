pub mod Floats
mod Forms
pub mod Orders
mod Parts
mod Walks
pub mod FormFacts
mod Lexing
pub mod Newline
mod Names
pub mod Texts
mod RowFacts
pub mod TableFacts
mod CellFacts
mod Arrays
mod RowForms

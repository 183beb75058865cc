pub mod TracedTrees
pub mod Places
pub mod TraceForms
pub mod ListedTables
pub mod Decoding
pub mod TracedTexts
pub mod Recorded
pub mod Laws

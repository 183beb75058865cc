pub mod WalkFacts
pub mod MachineFacts
pub mod CellFacts

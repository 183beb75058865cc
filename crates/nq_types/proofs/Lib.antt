pub mod Scopes
pub mod TableFacts
pub mod RecordFacts
pub mod Outcomes
pub mod Writing

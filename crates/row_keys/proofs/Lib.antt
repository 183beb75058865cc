pub mod KeyFacts
pub mod TwinFacts
pub mod CodeMapFacts
pub mod IndexFacts

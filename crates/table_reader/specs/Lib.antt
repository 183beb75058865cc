pub mod Records
pub mod Spelling
pub mod Tables
pub mod Faults
pub mod Progress

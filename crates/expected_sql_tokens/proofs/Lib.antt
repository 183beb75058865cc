pub mod KindFacts
pub mod Picking

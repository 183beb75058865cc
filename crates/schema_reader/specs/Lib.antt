pub mod Fronts
pub mod Machine
pub mod Views
pub mod Reading
pub mod Shapes
pub mod Answers
pub mod Words

pub mod Places
pub mod Agreement
pub mod Sentences
pub mod Lines
pub mod Explanations

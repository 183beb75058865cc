pub mod Keys
pub mod Dealing
pub mod Choices
pub mod Parts
pub mod Besides
pub mod Evaluating
pub mod Sums
pub mod Chains

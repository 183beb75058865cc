pub mod Dealing
pub mod Picking
pub mod Chains

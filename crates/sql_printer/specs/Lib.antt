pub mod Chains
pub mod Leads

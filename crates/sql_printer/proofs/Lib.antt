pub mod Quotes
pub mod Items
pub mod Texts
pub mod Totals
pub mod Chains

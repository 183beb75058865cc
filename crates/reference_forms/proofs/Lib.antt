mod Loops
mod Fields
mod Totals
mod Chains

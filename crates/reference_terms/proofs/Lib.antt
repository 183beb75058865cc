mod Adding
mod Bags
mod Fields
mod Loops
mod TableRows
mod Trees
mod Stepping

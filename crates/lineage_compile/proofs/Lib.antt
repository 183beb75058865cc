mod Queries
mod TableLoops

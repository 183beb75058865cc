mod Steps
mod Sorts
mod AllPaths

mod Sorts
mod Numbers

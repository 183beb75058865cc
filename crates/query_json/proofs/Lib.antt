mod NameFacts
mod TypeFacts
mod ParentFacts
mod TextFacts
mod Floats

pub mod Names
pub mod TypeForms
pub mod Paths
pub mod Parents
pub mod QueryForms

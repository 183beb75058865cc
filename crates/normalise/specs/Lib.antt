pub mod Raw
pub mod Numbers
pub mod Scopes
pub mod Choices
pub mod BagTests
pub mod Totals

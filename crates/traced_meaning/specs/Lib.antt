pub mod TracedValues
pub mod Traces
pub mod NumberedTables
pub mod TracedForms
pub mod Laws

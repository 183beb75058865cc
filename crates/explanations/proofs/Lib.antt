pub mod Pieces
pub mod Closings
pub mod SqlClosings
pub mod SqlColumns
pub mod SqlPlaces
pub mod Alone
pub mod Naming
pub mod NoRule

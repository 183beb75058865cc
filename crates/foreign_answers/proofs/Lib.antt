pub mod TagColumns
pub mod HomesMore
pub mod Found
pub mod Entering
pub mod Steps
pub mod Whole
pub mod Reading

pub mod Choices
pub mod Flat
pub mod Lowest
pub mod Rows
pub mod Short
pub mod Steps
pub mod Tableaus

pub mod HeldRows
pub mod Lists
pub mod Below
pub mod Nearness
pub mod Marking
pub mod Seeing
pub mod Factors
pub mod MadeCuts
pub mod Started
mod Words

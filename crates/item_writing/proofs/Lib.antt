mod Words
pub mod Written
pub mod Outputs
pub mod Faults
pub mod Calls
pub mod Turns
pub mod Lines

mod Words
mod Short
pub mod Sums
pub mod Steps
pub mod Spreading

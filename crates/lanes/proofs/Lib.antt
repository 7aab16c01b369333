pub mod Writing
pub mod Sums
mod Words

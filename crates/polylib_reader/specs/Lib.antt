pub mod Words
pub mod Matrices

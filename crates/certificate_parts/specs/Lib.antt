pub mod Fitting
pub mod Vectors

pub mod Comparisons
pub mod Places

mod Words
pub mod Chains
pub mod Fronts
pub mod Options
pub mod Problems

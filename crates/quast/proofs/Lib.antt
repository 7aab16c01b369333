mod Words
pub mod Conditions
pub mod Scopes
pub mod Lists
pub mod Lowest
pub mod Numerators
pub mod Paths

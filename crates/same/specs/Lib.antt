pub mod Searches
pub mod Samenesses

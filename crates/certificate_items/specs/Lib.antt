pub mod Needed
pub mod Triples

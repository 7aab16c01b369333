mod Words
pub mod Triples

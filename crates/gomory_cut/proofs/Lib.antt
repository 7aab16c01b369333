mod Words
pub mod Residues
pub mod Roundings
pub mod Wholes

mod Words
pub mod Found
pub mod Lent

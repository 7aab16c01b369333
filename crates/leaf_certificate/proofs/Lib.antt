mod Words
mod TwoDigits
pub mod Spellings
pub mod Sequences
pub mod Certificates
pub mod Found

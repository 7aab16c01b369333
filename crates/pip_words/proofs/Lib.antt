mod Words
pub mod Alone
pub mod Digits
pub mod Folds
pub mod Giving
pub mod Parameters
pub mod Parsed
pub mod Rows

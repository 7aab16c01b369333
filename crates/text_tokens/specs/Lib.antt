pub mod Tokens
pub mod Spaced

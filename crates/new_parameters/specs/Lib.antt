pub mod Keys
pub mod Scopes

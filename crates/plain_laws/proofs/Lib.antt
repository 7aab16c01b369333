pub mod Plain
pub mod Problems

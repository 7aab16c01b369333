pub mod Rows
pub mod Header
pub mod Problems
pub mod Refusals
pub mod Contexts
pub mod Groups

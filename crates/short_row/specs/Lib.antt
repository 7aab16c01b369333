pub mod Begun
pub mod Put
pub mod Rows
pub mod Sized
pub mod Terms
pub mod Turned
pub mod Whole

pub mod Places
pub mod Scaled
pub mod Begun
pub mod Turned
pub mod Entering
pub mod Cutting
pub mod Within
mod Words

pub mod Scaled
pub mod Tables
pub mod Units
pub mod Turned
pub mod Cut
pub mod Decided
pub mod Kept

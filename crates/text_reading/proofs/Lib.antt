pub mod Binds
pub mod Fronts
pub mod Ends
pub mod Words
pub mod Spaced

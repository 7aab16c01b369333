mod Words
pub mod Finished
pub mod Puts
pub mod Reached
pub mod ShortParts
pub mod UnitNumbers
pub mod Wholes

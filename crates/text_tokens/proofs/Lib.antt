mod Words
pub mod Blanks
pub mod Closing
pub mod DigitNumbers
pub mod ShortNumbers
pub mod SpacedNumbers

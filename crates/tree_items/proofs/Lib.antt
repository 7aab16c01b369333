mod Words
pub mod PieceTexts
pub mod Walked
pub mod Trios
pub mod Values

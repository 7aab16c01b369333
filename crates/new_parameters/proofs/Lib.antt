mod Words
pub mod Trimming
pub mod SameKeys
pub mod Finding
pub mod RoundingLaws

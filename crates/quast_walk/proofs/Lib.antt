mod Words
pub mod Placing
pub mod Walking
pub mod Pointed
pub mod Readied
pub mod Lists
pub mod GivenRows

mod Words
pub mod Constants
pub mod Stepwise
pub mod FaultPlaces
pub mod Found
pub mod RowSteps
pub mod Scanning

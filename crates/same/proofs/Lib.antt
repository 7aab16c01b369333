mod Words
mod Given
pub mod SameSteps

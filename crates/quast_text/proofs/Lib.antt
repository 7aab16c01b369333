mod Words
mod Whole
pub mod Spellings
pub mod Fronts
pub mod Lowest
pub mod Denominators
pub mod Grouped
pub mod Definitions
pub mod TreeSteps
pub mod ListSteps
pub mod Found

mod Words
pub mod Asked
pub mod Ends
pub mod ByProblem
pub mod Unasked

mod Words
pub mod ByProblem
pub mod Certifying
pub mod Solving
pub mod Asked

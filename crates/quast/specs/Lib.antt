pub mod Components
pub mod Trees
pub mod Answers
pub mod Places

mod Words
pub mod Steps
pub mod Making
pub mod Smaller
pub mod Owned
pub mod NextGoal
pub mod Refuted

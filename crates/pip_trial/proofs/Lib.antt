mod Words
pub mod Draws
pub mod Rooms
pub mod Steps
pub mod Counting

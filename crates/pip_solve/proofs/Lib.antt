mod Words
pub mod SameParts
pub mod Running
pub mod Begun
pub mod Going
pub mod Handing
pub mod Popping
pub mod Paths
pub mod Answered

pub mod Refusals
pub mod Windows
pub mod Open
pub mod Ended
pub mod Next
pub mod Asked

pub mod Faults
pub mod Bytes
pub mod Plans
pub mod Views
pub mod Windows
pub mod Calls

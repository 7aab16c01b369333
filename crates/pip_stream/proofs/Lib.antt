mod Words
pub mod Groups
pub mod Dropping
pub mod Scanned
pub mod Finding
pub mod Opening
pub mod Steps
pub mod Ending
pub mod Taking
pub mod Nexting
pub mod Asking

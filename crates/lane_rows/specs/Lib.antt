pub mod Laned
pub mod Read
pub mod Turned

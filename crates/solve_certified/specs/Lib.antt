pub mod Certified
pub mod Goals
pub mod Leaves
pub mod Quotients
pub mod Refutations
pub mod Trails
pub mod Walks

pub mod Faults
pub mod Visits
pub mod Readings
pub mod Nodes
pub mod Pairs
pub use Rattle.sign_split.specs.Scoped

pub mod Values
pub mod Pairs
pub use Rattle.restrict.specs.Faults

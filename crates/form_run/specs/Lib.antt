pub mod Factors
pub mod FlatLists
pub mod Held
pub mod Marks
pub use Rattle.short_run.specs.Stops

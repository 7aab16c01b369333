pub use Rattle.derivation_steps.specs.Faults
pub mod GoalForms
pub mod Goals
pub mod Known
pub mod Leaves
pub mod Turned

pub mod Points
pub mod TurnAt
pub mod Turns
pub mod Traces
pub use Rattle.short_tableau.specs.Ended
pub use Rattle.pip_problem.specs.Counts
pub use Rattle.short_tableau.specs.Tableaus

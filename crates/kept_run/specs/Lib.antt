pub mod Remembered
pub use Rattle.short_run.specs.Points
pub use Rattle.short_run.specs.Turns
pub use Rattle.point_turns.specs.Traces

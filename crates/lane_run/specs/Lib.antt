pub mod Within
pub mod Runs
pub mod Below
pub mod Pivots
pub use Rattle.lane_rows.specs.Laned
pub use Rattle.short_run.specs.Stops

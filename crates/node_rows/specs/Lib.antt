pub mod ReadRows
pub use Rattle.point_run.specs.Turns
pub use Rattle.point_run.specs.Points

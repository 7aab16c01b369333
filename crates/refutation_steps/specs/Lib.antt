pub use Rattle.point_run.specs.Choices
pub use Rattle.short_run.specs.Points
pub use Rattle.short_run.specs.Turns
pub use Rattle.point_run.specs.Tableaus

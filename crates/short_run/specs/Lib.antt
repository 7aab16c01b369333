pub mod Stops
pub use Rattle.point_turns.specs.declared.turns.PointTurn
pub use Rattle.point_turns.specs.Points
pub use Rattle.point_turns.specs.Turns
pub use Rattle.point_turns.specs.Ended

pub use Rattle.point_turns.specs.Points
pub use Rattle.point_turns.specs.TurnAt
pub use Rattle.point_turns.specs.Turns
pub use Rattle.dual_pivot.specs.Tableaus
pub use Rattle.gomory_cut.specs.Views
pub use Rattle.dual_pivot.specs.Choices

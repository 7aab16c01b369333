pub mod Known
pub mod Scoped
pub use Rattle.pip_problem.specs.Counts
pub use Rattle.lane_questions.specs.Points
pub use Rattle.lane_questions.specs.InLanes
pub use Rattle.lane_questions.specs.Signs
pub use Rattle.lane_questions.specs.declared.sign.LaneSign

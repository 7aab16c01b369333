mod Words
pub mod EndedRows
pub mod Ending
pub mod FurtherRows
pub mod QuestionTurns
pub use Rattle.point_turns.proofs.Leaving
pub use Rattle.point_turns.proofs.Places

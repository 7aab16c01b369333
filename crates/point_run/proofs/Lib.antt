mod Words
pub mod Values
pub mod WidenedRows
pub use Rattle.point_turns.proofs.Leaving
pub use Rattle.point_turns.proofs.Pointing
pub use Rattle.point_turns.proofs.Turning

pub mod FrontPivot
pub mod FirstBelow
pub mod Parts
pub mod RowBelow
pub mod Passed
pub mod CutTurns
pub mod Modest
pub mod SameRun
mod Words
pub use Rattle.short_run.proofs.Ending

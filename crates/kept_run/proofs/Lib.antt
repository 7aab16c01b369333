mod Words
pub mod EndingBehind
mod OneFurther
pub mod GoingFurther
pub mod Longer
pub mod OneFormMore
pub mod PivotBehind
pub mod Replaying
pub mod Retracing
pub use Rattle.short_run.proofs.Leaving
pub use Rattle.short_run.proofs.Ending
pub use Rattle.point_turns.proofs.NextTraces

mod Words
pub mod AtOnce
pub mod Keeping
pub mod PointMeaning
pub use Rattle.kept_run.proofs.OneFormMore
pub use Rattle.lane_questions.proofs.TightLanes

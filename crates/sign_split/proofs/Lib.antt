mod Words
pub mod ClassMeaning
pub mod Opposites
pub mod TightSigns
pub mod Widening
pub mod ByPoints
pub mod LaneClasses
pub use Rattle.context_points.proofs.Keeping

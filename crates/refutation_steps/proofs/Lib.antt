mod Words
mod NoPlaces
pub mod Positives
pub mod RefutedPoints
pub mod Tracing
pub use Rattle.short_run.proofs.Leaving

pub mod ReadRows
pub mod Pivoting
pub use Rattle.point_run.proofs.Pointing
mod Words

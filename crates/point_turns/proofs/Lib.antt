mod Words
pub mod Leaving
pub mod Pointing
pub mod Turning
pub mod NextTraces
pub use Rattle.short_tableau.proofs.RowLaws
pub use Rattle.short_tableau.proofs.Places

mod Words
pub mod Cutting
pub mod Ended
pub mod Entries
pub mod Fitting
pub mod OneRow
pub mod Places
pub use Rattle.row_laws.proofs.RowLaws

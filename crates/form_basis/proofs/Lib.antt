pub mod MadeRows
pub mod ReadForms
pub use Rattle.form_laws.proofs.Begun
pub use Rattle.form_laws.proofs.Columns
pub use Rattle.form_laws.proofs.Divided
pub use Rattle.form_laws.proofs.Invariant
pub use Rattle.form_laws.proofs.Within
mod Words

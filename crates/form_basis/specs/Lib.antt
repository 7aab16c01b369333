pub mod ReadRows
pub use Rattle.form_laws.specs.Bounds
pub use Rattle.form_laws.specs.ByForm
pub use Rattle.form_laws.specs.Columns

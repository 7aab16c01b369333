pub mod Room
pub mod Stepped
pub mod Views
pub use Rattle.affine_forms.specs.Checks

pub mod Short
pub mod Nonzeros
pub use Rattle.affine_forms.specs.Checks
pub use Rattle.affine_forms.specs.Forms

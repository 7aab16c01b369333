pub mod Counts
pub mod Faults
pub use Rattle.affine_forms.specs.Run
pub use Rattle.affine_forms.specs.Agreement

pub mod Bounds
pub mod Quotients
pub mod Places
pub use Rattle.affine_forms.proofs.Units
pub use Rattle.affine_forms.proofs.Short
pub use Rattle.affine_forms.proofs.Divisors
pub use Rattle.affine_forms.proofs.Combined

mod Words
pub mod Bits
pub mod QuotientForms
pub mod Combined
pub mod Divisors
mod DeclaredLimits
pub mod Mapped
pub mod Opposites
pub mod Places
pub mod Raising
pub mod Short
pub mod Tightening
pub mod Units
pub mod Values
pub use Rattle.pip_model.proofs.Gcd
pub mod Whole

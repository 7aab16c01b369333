pub use Rattle.certificate_parts.specs.Fitting
pub use Rattle.certificate_parts.specs.Vectors
pub mod Printing
pub mod Faults
pub mod Sequences

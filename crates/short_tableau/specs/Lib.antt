pub mod Below
pub mod Dense
pub mod Ended
pub mod Turned
pub use Rattle.row_laws.specs.Tableaus

pub mod Fractions
pub use Rattle.tableau.specs.Tableaus
pub use Rattle.tableau.specs.Views

pub mod KeptRows
pub mod Places
pub use Rattle.row_laws.specs.Flat
pub use Rattle.row_laws.specs.Rows
pub use Rattle.row_laws.specs.Short
pub use Rattle.row_laws.specs.Tableaus
pub use Rattle.tableau_row.specs.Views

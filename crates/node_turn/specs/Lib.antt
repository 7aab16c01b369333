pub mod Known
pub mod KnownPlaces
pub mod Nodes
pub mod Signs
pub mod Turns
pub use Rattle.sign_split.specs.ContextMark
pub use Rattle.node_rows.specs.Points

mod Words
pub mod Turned
pub mod Scanning
pub mod FirstRows
pub mod Knowing
pub mod KnownPlaces
pub mod Cutting
pub use Rattle.node_rows.proofs.Pointing

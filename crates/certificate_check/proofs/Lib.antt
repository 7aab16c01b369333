mod Words
pub mod Numbers
pub mod Walks
pub mod Shares
pub mod Commons
pub mod Indices
pub mod Lengths
pub use Rattle.leaf_check.proofs.Owned

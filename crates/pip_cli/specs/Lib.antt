pub mod Runs
pub mod Ends
pub use Rattle.item_writing.specs.ByProblem

-- The words of other modules that the proofs of this crate cite, passed on from one place. Declares nothing.
pub use Rattle.std.proofs.lemmas.Result.{err_from_is_err_and}
pub use Rattle.quast_walk.specs.Faults.{tool_fault}
pub use Rattle.quast_walk.proofs.Placing.{spread_tree-none}
pub use Rattle.quast.specs.Answers.{answer_of}
pub use Rattle.quast.specs.Trees.{tree_of}
pub use Rattle.walk_laws.proofs.Printing.{restrict-printable}
pub use Rattle.quast_walk.specs.Nodes.{node_answer}

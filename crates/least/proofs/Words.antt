-- The words of other modules that the proofs of this crate cite, passed on from one place. Declares nothing.
pub use Rattle.std.proofs.Common.{◌≡◌, ◌∙◌, ap, sym, ℕ, ◌+◌, ◌<◌, arith, List, length, ℤ, ◌≤◌, rules, ◌*◌}
pub use Rattle.std.proofs.lemmas.List.{drop_more}
pub use Rattle.std.proofs.lemmas.Result.{err_from_is_err_and}
pub use Rattle.pip_model.specs.Tree.{Component, Leaf}
pub use Rattle.pip_model.specs.Run.{Work, Budget, start_work}
pub use Rattle.pip_model.specs.Walks.{Made, where_holds}
pub use Rattle.pip_model.specs.Tools.{widened_components, least, count_if}
pub use Rattle.quast_walk.specs.Faults.{tool_fault}
pub use Rattle.quast_walk.specs.Visits.{visit_of}
pub use Rattle.quast_walk.proofs.Placing.{spread_tree-none}
pub use Rattle.quast_walk.proofs.Walking.{stops}
pub use Rattle.quast.specs.Answers.{answer_of}
pub use Rattle.quast.specs.Trees.{tree_of}
pub use Rattle.quast_walk.specs.Readings.{answer_nesting, leaf_tree}
pub use Rattle.walk_laws.proofs.Printing.{least-printable}
pub use Rattle.least.specs.Choices.{left, rest_chosen}
pub use Rattle.quast_walk.specs.Nodes.{node_answer}

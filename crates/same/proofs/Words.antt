-- The words of other modules that the proofs of this crate cite, passed on from one place. Declares nothing.
pub use Rattle.std.proofs.Common.{◌≡◌, ◌∙◌, ap, sym, ℕ, ◌+◌, ◌<◌, arith, List, [], ◌∷◌, ◌++◌, length, get_or, drop, ℤ, Option, Some, None, Result, Ok, Err, ap₂, refl, pos, negsuc, ◌-ℤ◌, rules}
pub use Rattle.std.proofs.lemmas.List.{drop_more}
pub use Rattle.std.proofs.lemmas.Result.{err_from_is_err_and}
pub use Rattle.pip_model.specs.Listed.{opposite_listed}
pub use Rattle.pip_model.specs.Tree.{Component}
pub use Rattle.pip_model.specs.Run.{Work, point}
pub use Rattle.pip_model.specs.Walks.{Walked, Made, Stopped, Walking, walk_on, make, by_run}
pub use Rattle.pip_model.specs.Tools.{first_numbers, differ_or, first_of_both, same_lists, widened_components}
pub use Rattle.pip_model.specs.ToolAgreement.{AgreesWalked}
pub use Rattle.quast_walk.specs.Scoped.{ScopedForms, IsKeptContext}
pub use Rattle.quast_walk.specs.Faults.{tool_fault}
pub use Rattle.quast_walk.specs.Visits.{visit_of}
pub use Rattle.quast_walk.proofs.Placing.{spread_tree-none}
pub use Rattle.quast_walk.proofs.Walking.{stops}
pub use Rattle.pip_model.specs.Forms.{constant, plus, opposite}
pub use Rattle.pip_model.specs.ToolLaws.{IsSameness}
pub use Rattle.quast.specs.Answers.{answer_of}
pub use Rattle.quast.specs.Trees.{tree_of}
pub use Rattle.quast_walk.specs.Readings.{leaf_tree}
pub use Rattle.same.specs.Searches.{point_or, component_or, Finds}
pub use Rattle.same.specs.Samenesses.{sameness_of, DiffersOver}

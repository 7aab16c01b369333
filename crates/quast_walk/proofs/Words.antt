-- The words of other modules that the proofs of this crate cite, passed on from one place. Declares nothing.
pub use Rattle.std.proofs.Common.{◌≡◌, ap, ℕ, ◌+◌, ◌≤◌, arith, ℤ, List, length, ◌∙◌, refl, sym, true, [], ◌∷◌, ◌++◌, IsTrue, IsFalse, subst, Option, Some, None, ap₂, take, drop, get_or, map, pos, All, int_le, eqb-true, append-nil, ◌==◌, ◌-◌, ◌*◌, rules, to_z, of_z, suc, ◌<◌, replicate, ◌^◌}
pub use Rattle.std.specs.Prelude.{IfSome, nat_le}
pub use Rattle.std.specs.List.{list_all}
pub use Rattle.std.proofs.lemmas.List.{take-append-drop, map_more, take_all}
pub use Rattle.std.proofs.lemmas.List.Elements.{All-push}
pub use Rattle.std.specs.Int.{w128}
pub use Rattle.std.proofs.lemmas.Result.{err_from_is_err_and}
pub use Rattle.pip_model.specs.Cuts.{Quotient, lower_bound, upper_bound}
pub use Rattle.pip_model.specs.Listed.{all_fit}
pub use Rattle.pip_model.specs.Tree.{Tree, NewParm, Bottom, Leaf, If, Component, reduced, is_form, is_component, is_scoped, size, nesting}
pub use Rattle.pip_model.specs.Run.{Work, class, listed}
pub use Rattle.pip_model.specs.Tools.{spread, spread_tree, spread_component, widened_components, widened_component}
pub use Rattle.pip_model.specs.Walks.{Walked, Stopped, Walking, walk_on, make, by_run, Visit, below_listed, ToolRefusal, where_holds, walk}
pub use Rattle.affine_forms.specs.Checks.{is_form_overflow}
pub use Rattle.pip_model.specs.Numbers.{gcd, gcd_of, same_number, floor_div, is_nonneg}
pub use Rattle.pip_model.specs.Forms.{floor_divided, width, widen_to, coefficients, constant}
pub use Rattle.pip_model.proofs.Tests.{three, both, same_number_is}
pub use Rattle.quast.specs.Trees.{ScopedTree, IsQuast, tree_of}
pub use Rattle.quast_walk.specs.Faults.{tool_fault, of_form}
pub use Rattle.quast_walk.specs.Visits.{visit_of}
pub use Rattle.quast_walk.specs.Readings.{IsOwnComponent, IsTreeAt, spread_reduced}
pub use Rattle.std.proofs.Math.Seq.{drop-append_seam}
pub use Rattle.run_laws.proofs.Lengths.{length_map}
pub use Rattle.quast.specs.Answers.{answer_of}
pub use Rattle.quast_walk.specs.Nodes.{node_answer}

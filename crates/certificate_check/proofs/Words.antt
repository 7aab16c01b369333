-- The words of other modules that the proofs of this crate cite, passed on from one place. Declares nothing.
pub use Rattle.std.proofs.Common.{◌≡◌, refl, ap, ap₂, sym, ◌∙◌, ℕ, ◌+◌, ℤ, Bool, true, false, List, [], ◌∷◌, ◌++◌, length, map, drop, append_assoc, Ok, Err, ◌<◌, ◌^◌, pos, negsuc, ◌+ℤ◌, ◌-ℤ◌, ◌≤ℤ◌, ◌<ℤ◌, unsigned_abs, arith, zero, suc, ◌≤◌, get_or, replicate, subst, eqb-true, ◌&&◌, take, append-nil, inl, inr, if◌then◌else◌, rules, IsTrue, ◌-◌, max}
pub use Rattle.std.specs.Prelude.{◌==◌, Option, Some, None, nat_lt, All, IfSome, IsFalse}
pub use Rattle.std.proofs.lemmas.Int.{ints, to_z-of_z}
pub use Rattle.std.proofs.lemmas.List.{length-append, length-map, length-replicate, drop-drop, drop_more, map-append, length-drop, drop_all, take_more, take_all, get_or-map, take_at}
pub use Rattle.std.proofs.lemmas.Result.{err_from_is_err_and, IfOk-weaker, on_ok_weaker}
pub use Rattle.pip_model.specs.Reading.{◌>>=◌, ◌>>◌}
pub use Rattle.pip_model.specs.Listed.{all_fit, opposite_listed}
pub use Rattle.pip_model.specs.Problem.{Problem, is_vector}
pub use Rattle.pip_model.specs.Certificate.{Refutation, LeafProofs, Certificate, Step}
pub use Rattle.pip_model.specs.Check.{Spot, spot, Checks, holds, fit, after_steps, Premises, LeafCase, joined, check_refutation, check_refutations, check_proofs, is_whole_list, leaf_forms, leaf_premises, check_leaf, check_leaves, leaf_cases, ends_absurd, carried, listed_before, places_from, scope_forms, unknown_forms, row_form, row_premises, sign_premises, least_premises, smaller_from, fronts_from, check_context, check_void, check_tree, check_by, void_forms, void_premises, proofs_at, Accepted, CheckFault, Rejected, Unfit}
pub use Rattle.pip_model.specs.Cuts.{Quotient, lower_bound, upper_bound}
pub use Rattle.pip_model.specs.Forms.{opposite, constant, widen_to}
pub use Rattle.pip_model.specs.Tree.{Tree, Bottom, Leaf, If, NewParm, Component, leaves, Answer, Void, Solved, size, nesting}
pub use Rattle.check_laws.proofs.CheckLoops.{check_leaves-if}
pub use Rattle.pip_model.proofs.Fitting.{fit_behind, fits-le, fit_never}
pub use Rattle.pip_model.specs.Numbers.{fits, same_number}
pub use Rattle.pip_model.specs.Share.{shareable, common_front, shared_by, after_shared, share_leaf, share_leaves, shared_leaves, renumbered, moved_index, lowered, same_terms, IsCommon, share}
pub use Rattle.leaf_check.specs.Leaves.{goal_count}
pub use Rattle.leaf_check.proofs.Owned.{own_goals, whole_count}
pub use Rattle.pip_model.proofs.Tests.{same_number_yes, same_number_no, both}
pub use Rattle.quast.specs.Trees.{tree_of}
pub use Rattle.quast.specs.Answers.{answer_of}
pub use Rattle.pip_model.proofs.Bounds.{length-bounds}
pub use Rattle.leaf_check.proofs.Smaller.{if_ok, length-smaller_from}
pub use Rattle.certificate_check.specs.Paths.{no_proofs, PathForms, first_list, path_fault}
pub use Rattle.certificate_check.specs.Sharing.{counts_from, own_sizes, sized, share_sized, share_at, share_below, IsCounted, IsCountedAt, index_of}

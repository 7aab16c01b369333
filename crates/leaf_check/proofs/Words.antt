-- The words of other modules that the proofs of this crate cite, passed on from one place. Declares nothing.
pub use Rattle.std.proofs.Common.{◌≡◌, refl, ap, sym, ◌∙◌, ℕ, ◌+◌, ◌<◌, ◌≤◌, ℤ, ◌+ℤ◌, pos, Bool, true, false, ◌&&◌, List, [], ◌∷◌, ◌++◌, length, take, drop, set, get_or, append_assoc, arith, Ok, Err, ap₂, map, zero, suc, ◌-◌, negsuc, ◌-ℤ◌, neg_ℤ, Result, eqb-true, replicate, inl, inr, rules, subst, add-one}
pub use Rattle.std.specs.Prelude.{IsTrue, IsFalse, slice_index_or, Option, Some, None, IfSome, IfOk, ◌==◌, int_le, All, option_copied, OnOk}
pub use Rattle.std.proofs.lemmas.List.{drop_more, drop_all, length-append, length-map, take-take, take_at, get_or-map, length-take, get_or_at, take_all, get_or-append_right, length-replicate, set_split, take-replicate, drop-replicate, drop_at, length-drop, get_or_append_left, take-append-le, take-append-drop, map-append, append-nil}
pub use Rattle.std.proofs.lemmas.Int.{ints, to_z-of_z}
pub use Rattle.std.specs.Int.{w128}
pub use Rattle.std.proofs.lemmas.Result.{err_from_is_err_and}
pub use Rattle.std.proofs.lemmas.Grind.{common_steps}
pub use Rattle.pip_model.specs.Numbers.{same_number}
pub use Rattle.pip_model.specs.Forms.{entry, constant, add, negate, plus, opposite, unit_form, widen_to, width, coefficients}
pub use Rattle.pip_model.specs.Listed.{all_fit, opposite_listed}
pub use Rattle.pip_model.specs.Reading.{◌>>=◌, ◌>>◌}
pub use Rattle.pip_model.specs.Check.{Spot, CheckFault, Checks, plus_term, plus_term_listed, sum_of, holds, Premises, joined, check_refutation, check_refutations, put_in, put_in_listed, not_above, smaller_from, spot, Rejected, check_leaf, LeafCase, leaf_premises, row_premises, sign_premises, least_premises, fronts_from, is_whole_list, places_from, row_form, is_divisible, derived, after_step, is_absurd, ends_absurd, unknown_forms, after_steps, scope_forms}
pub use Rattle.pip_model.proofs.Fitting.{fit_behind, fit_never}
pub use Rattle.pip_model.specs.Certificate.{Refutation, LeafProofs, Step}
pub use Rattle.pip_model.specs.Tree.{Component}
pub use Rattle.pip_model.specs.Agreement.{IsChecked}
pub use Rattle.pip_model.proofs.Forms.{length-add, length-plus, constant-plus, length-widened, length-coefficients, length-opposite, widen_same}
pub use Rattle.pip_model.specs.Problem.{Problem}
pub use Rattle.affine_forms.specs.Checks.{Fits, is_form_overflow}
pub use Rattle.leaf_check.specs.Leaves.{nothing, goal_count, has_shape, case_of, own_premises}
pub use Rattle.leaf_check.specs.Known.{KnownForms, absurd_by}
pub use Rattle.leaf_check.specs.Goals.{without_last}
pub use Rattle.derivation_steps.specs.Faults.{fault_of}
pub use Rattle.std.specs.List.{list_all, take-map}
pub use Rattle.derivation_steps.proofs.Spreading.{spread_absurd, no_multiple, no_multiple_listed}
pub use Rattle.derivation_steps.specs.Steps.{read_over, absurd_after}
pub use Rattle.leaf_check.specs.Turned.{AreMore, own_forms, staying, AreBehind}

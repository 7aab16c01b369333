-- The words of other modules that the proofs of this crate cite, passed on from one place. Declares nothing.
pub use Rattle.std.proofs.Common.{◌≡◌, refl, ap, sym, ◌∙◌, ℕ, suc, ◌+◌, ◌≤◌, ℤ, pos, arith, List, [], ◌∷◌, ◌++◌, length, Bool, true, false, eqb-true, append_assoc, length-append, ◌<◌, eq-eqb, ap₂, subst, zero, negsuc, ◌+ℤ◌, ◌*ℤ◌, ◌-◌, ◌-ℤ◌, inl, inr, ◌*◌, ◌^◌, max, leb-true, neg_ℤ, cond}
pub use Rattle.std.proofs.lemmas.List.{get_or_at, length-map, nil_from_length, append-nil, length-drop, length-take, length-replicate, length-take-le, take-append-drop, get_or-append-add, map-append}
pub use Rattle.std.specs.Prelude.{◌&&◌, ◌==◌, nat_lt, unsigned_abs, int_le, drop, map, replicate, slice_index_or, Option, Some, None, Ok, Err, if◌then◌else◌, ⊤, IsTrue, take, not, MatchBool, int_lt, ◌<ℤ◌, nat_le}
pub use Rattle.std.specs.List.{list_all, AllByRecursion, All}
pub use Rattle.std.proofs.lemmas.Bool.Decides.{nat_tests}
pub use Rattle.std.proofs.lemmas.Int.{ints}
pub use Rattle.std.proofs.Math.ListN.{get_or-append}
pub use Rattle.std.proofs.lemmas.Bool.{cases_lt}
pub use Rattle.pip_model.specs.Numbers.{is_nonneg, same_number, fits, floor_div, gcd, gcd_of, is_negative, is_zero}
pub use Rattle.pip_model.specs.Forms.{value, dot, width, negate, plus, opposite, constant, coefficients, constant_form, unit_form, widen_to, scale}
pub use Rattle.pip_model.specs.Listed.{all_fit, value_listed, opposite_listed}
pub use Rattle.pip_model.specs.Reading.{◌>>=◌, ◌>>◌}
pub use Rattle.pip_model.specs.Problem.{Problem, is_vector, InContext, all_nonneg, Feasible, lex_less, IsLeast}
pub use Rattle.pip_model.specs.Tree.{Tree, Answer, Void, Solved, leaves, Component, is_form, Ratio, component_value, tree_value, IsWellFormed, If, Leaf, Bottom, NewParm, is_component, is_scoped, nesting}
pub use Rattle.pip_model.specs.Certificate.{Step, Refutation, LeafProofs, Certificate}
pub use Rattle.pip_model.specs.Check.{Spot, spot, Unfit, Checks, holds, fit, plus_term, plus_term_listed, is_divisible, sum_of, after_step, after_steps, Premises, check_refutation, check_refutations, joined, listed_before, carried, check_proofs, LeafCase, leaf_cases, leaf_forms, leaf_premises, is_whole_list, check_leaf, check_leaves, check_context, void_forms, void_premises, proofs_at, check_void, check_tree, check_by, check, row_premises, sign_premises, least_premises, fronts_from, Accepted, places_from, row_form, scope_forms, unknown_forms, CheckFault, ends_absurd, derived, Rejected, smaller_from, put_in, not_above, is_absurd}
pub use Rattle.pip_model.specs.Conditions.{place, steps_at, IsPlace, FirstUnmet, Condition, test, first_fault, named, term_conditions, step_sum, step_conditions, known_after, known_at_end, steps_conditions, refutation_conditions, refutations_conditions, proofs_conditions, leaf_conditions, leaves_conditions, context_conditions, conditions_by, conditions, IsNotAfter, Ascends, fitting, total}
pub use Rattle.pip_model.specs.WellFormed.{IsProblem, IsRow, IsWellFormedAnswer}
pub use Rattle.pip_model.specs.Printed.{steps_fit, shared_fit, leaf_fits, vector_fits, certificate_fits, has_few, few_steps, step_fits}
pub use Rattle.pip_model.specs.Share.{share_leaf, share_leaves, shared_leaves, share, is_own, lowered, moved_index, renumbered, shareable, shared_by, IsFront, IsCommon, after_shared, is_shareable, same_step, common_front, same_terms}
pub use Rattle.pip_model.proofs.Tests.{both, both_true, every-append, same_number_is, never_both, below, above, three, all_three, same_number-itself, if_cases, every-parts, not_false, every-map, is_nonneg_is}
pub use Rattle.pip_model.proofs.Laws.{opposite-parts, dot-add, dot-negate, value-plus, floor_div-law}
pub use Rattle.pip_model.proofs.Vectors.{dot-append, dot-parts, value-unit_form, length-unit_form, value-widen_to, length-widen_to, dot-zeros}
pub use Rattle.pip_model.specs.Holds.{Holds}
pub use Rattle.pip_model.proofs.Forms.{length-add, length-form, dot-take}
pub use Rattle.pip_model.specs.Right.{IsPoint, IsWholeMinimum, IsRationalMinimum, IsMinimum, IsRight}
pub use Rattle.pip_model.specs.Limits.{most_params, most_context_rows, most_rows, most_unknowns, most_components, most_nesting}
pub use Rattle.pip_model.specs.Cuts.{Quotient, lower_bound, upper_bound, rounding}
pub use Rattle.pip_model.proofs.Derivations.{dot-scale, length-plus_term, holds-sum_of, holds-derived}

-- The words of other modules that the proofs of this crate cite, passed on from one place. Declares nothing.
pub use Rattle.std.proofs.Common.{◌≡◌, refl, ap, ◌∙◌, ℕ, suc, arith, None, Some, List, [], ◌∷◌, take, length, true, ℤ, pos, negsuc, neg_ℤ, ◌≤ℤ◌, ◌<ℤ◌, ap₂, sym, subst, zero, ◌+◌, ◌<◌, ◌≤◌, Option, ◌++◌, append_assoc, length-append, Bool, false, ◌&&◌, ◌+ℤ◌, append-nil, drop, cond, not, eqb-true, ◌-ℤ◌, ◌*ℤ◌, inl, inr, length-set, ◌-◌, ◌*◌, int_lt, eq-eqb}
pub use Rattle.std.proofs.lemmas.List.{length-take-le, get_or-append-add, get_or-map, take-append-drop, length-replicate, take_at, get_or-take, map-append, map-set}
pub use Rattle.std.proofs.lemmas.Int.{ints}
pub use Rattle.std.proofs.lemmas.Bool.Decides.{nat_tests}
pub use Rattle.std.specs.Prelude.{◌==◌, map, slice_index_or, if◌then◌else◌, slice_set, int_le, nat_le, replicate, MatchBool, unsigned_abs, nat_lt, Err}
pub use Rattle.std.specs.List.{list_all, AllByRecursion}
pub use Rattle.std.proofs.Math.ListN.{get_or-append}
pub use Rattle.std.proofs.Math.Seq.{get_or-append_seam, take-length, drop-append_seam, drop-cons, take-suc}
pub use Rattle.std.proofs.lemmas.List.Folds.{list_all-append}
pub use Rattle.std.proofs.lemmas.Bool.{cond-true, cases_lt, cases_eq}
pub use Rattle.pip_model.specs.Numbers.{same_number, fits, is_positive, is_nonneg, floor_div, gcd, gcd_of, floor_mod, is_zero, is_negative, divides}
pub use Rattle.pip_model.specs.Forms.{residue, entry, unit_form, widen_to, negate, value, opposite, constant, dot, width, coefficients, scale, add, plus, constant_form, floor_divided}
pub use Rattle.pip_model.specs.Tree.{Tree, Bottom, Leaf, If, NewParm, Component, Ratio, tree_value, is_form, is_component, is_scoped, Answer, Void, Solved, nesting, component_value, leaves}
pub use Rattle.pip_model.specs.Rows.{Row, row_at, first_fraction, pivot, pivot_listed, entering, unit_row, form_row, count_from, start}
pub use Rattle.pip_model.specs.Check.{is_whole_list, LeafCase, places_from, Premises, leaf_cases, scope_forms, unknown_forms, row_form, plus_term, put_in, put_in_listed, row_premises, sign_premises, least_premises, smaller_from, fronts_from, leaf_premises, joined, leaf_forms, not_above, derived, is_absurd, is_divisible, spot, void_forms, void_premises, check, plus_term_listed, Spot, ends_absurd, Rejected, Unfit, CheckFault}
pub use Rattle.pip_model.specs.Run.{Class, Setting, Node, scope, Turn, row_component, leaf, turn, run_from, left, Work, Refusal, Outcome, Done, Refused, ◌>>=◌, give, listed, point, Again, root, Budget, IsBudget, start_work, Overflow, Counted, go_on, ◌>>◌, Plus, Minus, numbers_of, point_setting, point_run, setting, answer_from, solve, first_node, Pivots, Cuts, Splits, Nesting}
pub use Rattle.pip_model.proofs.Tests.{both_true, every-append, both, three, is_nonneg_is, every-parts, same_number_is, one_le, negative_is, never_both, above, if_cases, every-map, every-set, every-at, every-take}
pub use Rattle.run_laws.proofs.Tableaux.{Positive, NonNegativeAt, equation_at, all_pivoted, Divided, AllDivided}
pub use Rattle.run_laws.proofs.Ensured.{Ensures, ensures-weaken, OnDone, OnMade, Makes, ensures-bind, ensures-give, ends-listed, done_of}
pub use Rattle.run_laws.proofs.RowsAt.{rows_of, FormsWide, wide_form_at, forms_more, forms_pivot, row_of, rows_append, row_with, row_at_of, length_rows, pivot_at}
pub use Rattle.run_laws.proofs.Scopes.{with_one, Narrow, InScope, affine, value-affine, affine-more, bounds-at, length-bounds, length-opposite, AllHold, narrow_both, narrow_wider, hold_front, value-widen_to, length-widen_to, dot_unit, length_unit, length-add, length-plus, entry_front, nn_front, hold_narrower, length-rounding, entry_end, affine-widen, constant-end}
pub use Rattle.run_laws.proofs.Gomory.{floor_mod_is, mods, dot-mods, cut_row, cut_value, cut_says}
pub use Rattle.run_laws.proofs.Lengths.{length_map, length_drop, length_zeros, length_floors, length_negate}
pub use Rattle.pip_model.specs.Problem.{Problem, is_vector, all_nonneg, InContext, Feasible, lex_less, IsLeast}
pub use Rattle.pip_model.specs.Certificate.{Refutation, Step, LeafProofs, Certificate}
pub use Rattle.pip_model.specs.Conditions.{named, known_at_end, step_sum, known_after, total, test, conditions, context_conditions, tree_conditions, leaves_conditions, refutation_conditions, refutations_conditions, proofs_conditions, leaf_conditions, term_conditions, step_conditions, steps_conditions, Condition, first_fault}
pub use Rattle.pip_model.specs.Listed.{all_fit, opposite_listed}
pub use Rattle.pip_model.specs.Refuting.{indices, refute, Trace, positive_terms, cut_step, last_step, pivot_trace, cut_trace, first_trace, refute_by, refute_from}
pub use Rattle.pip_model.specs.Made.{PathQuotient, quotient_steps, narrow_to, steps_or_none, made_refutation, path_quotients, quotient_step, made_refutations, made_leaf, made_leaves, void_leaf, run_certificate, solve_with_certificate, unshared, if_fits, IsNotRejected, IsCount, IsRefusedBy}
pub use Rattle.run_laws.proofs.SolveRight.{context_of, solve_good, narrow_rows, rows, F, AnyScope, facts, first_node_holds}
pub use Rattle.run_laws.proofs.PointRight.{IsPointOf, point_right}
pub use Rattle.refutation_laws.proofs.Traces.{IfSteps, Traces, run_kept}
pub use Rattle.pip_model.specs.RefutedPoint.{IsRefutedPoint}
pub use Rattle.refutation_laws.proofs.SameRun.{refute-same, length_cut, start_flat}
pub use Rattle.check_laws.proofs.ShareReadable.{length-places, scope_long, unknown_long, length-smaller}
pub use Rattle.check_laws.proofs.StartingForms.{every-kept, value-row_form, length-row_form, point_parts, length-scope_part}
pub use Rattle.pip_model.specs.Printed.{step_fits, component_fits, vector_fits, certificate_fits, tree_fits, leaf_fits}
pub use Rattle.pip_model.specs.Cuts.{constant_cut, fractional_parts, Quotient, lower_bound, upper_bound, rounding}
pub use Rattle.pip_model.proofs.Fitting.{fit_head, fits-le, fit_negate, fit_mods, fit_widen, fit_parts, fit_take, fit_drop, fit_entry, fit_cons, fit_join, fit_zeros}
pub use Rattle.run_laws.proofs.Enterings.{entering_enters, entering_none}
pub use Rattle.run_laws.proofs.FitRows.{RowsFit, row_fits_at, start_fits, pivot_fits, constant_cut_fits, RowFits}
pub use Rattle.pip_model.specs.Limits.{most_components, most_unknowns, most_params, most_rows, most_context_rows, most_nesting}
pub use Rattle.pip_model.proofs.Laws.{opposite-parts, dot-add, value-plus, dot-negate}
pub use Rattle.run_laws.proofs.Floors.{floor_only}
pub use Rattle.check_laws.proofs.Paths.{leaf_value, length-leaf_cases}
pub use Rattle.pip_model.proofs.Polynomials.{var, num, ◌⊕◌, ◌⊖◌, ◌⊗◌, ring, ring_by, ring_by_2}
pub use Rattle.run_laws.proofs.Equations.{Equation, Says, AllSay, Wide}
pub use Rattle.run_laws.proofs.Sums.{dot-set_left, length-scale}
pub use Rattle.pip_model.proofs.Forms.{widen_same, entry-zeros, entry-widened, entry-negate, entry-scale, constant-plus}
pub use Rattle.pip_model.specs.Right.{IsRight, IsPoint, IsWholeMinimum, IsRationalMinimum}
pub use Rattle.pip_model.specs.WellFormed.{IsProblem, IsRow}
pub use Rattle.check_laws.proofs.Points.{smaller_from-cons, Sized, length-put_in, value-point_row}
pub use Rattle.pip_model.proofs.Derivations.{length-plus_term}
pub use Rattle.run_laws.proofs.CutsAt.{constant_cut_at, length_mods, length_residue, mod_multiple}
pub use Rattle.pip_model.proofs.Division.{floor-unique, form-parts}

-- The words of other modules that the proofs of this crate cite, passed on from one place. Declares nothing.
pub use Rattle.std.proofs.Common.{◌≡◌, ◌∙◌, ap, ap₂, sym, subst, refl, ℕ, zero, suc, arith, inl, inr, Bool, true, false, cond, List, [], ◌∷◌, ◌++◌, append_assoc, take, drop, length, ℤ, pos, negsuc, ◌+ℤ◌, ◌-ℤ◌, ◌*ℤ◌, ◌≤ℤ◌, ◌<ℤ◌, int_lt, eq-eqb, eqb-true, ◌<◌, ◌-◌, ◌%◌, neg_ℤ, ◌+◌, Option, Some, None, le-leb, ◌≤◌, length-set, append-nil, ◌⊎◌, ◌&&◌, nat_abs, length-append, leb-true}
pub use Rattle.std.proofs.lemmas.Int.{ints}
pub use borrow.Author.Differences.{lt-true, lt-false, le-true}
pub use Rattle.std.specs.Prelude.{map, ◌==◌, replicate, int_le, nat_le, slice_set, flat_map, if◌then◌else◌, slice_index_or, filter, nat_lt, max, IsTrue, not}
pub use Rattle.std.specs.List.{list_all, AllByRecursion}
pub use Rattle.std.proofs.lemmas.List.{length-take, length-take-le, length-map, set-get_or, get_or-set_same, get_or-set_other, get_or-map, take-map, map-append, map-set, ext_get_or, length-drop, length-replicate, take-append-le, take_at, drop_at, drop-map, drop-append-le, get_or_past}
pub use Rattle.std.proofs.lemmas.Bool.{cases_eq, cases_lt}
pub use Rattle.std.proofs.Math.Seq.{take-length, get_or-append_seam, take-append_seam}
pub use Rattle.std.proofs.Math.ListN.{get_or-append}
pub use Rattle.pip_model.specs.Numbers.{is_nonneg, fits, floor_mod, is_zero, floor_div, same_number, gcd, gcd_of, is_positive, is_negative}
pub use Rattle.pip_model.specs.Forms.{entry, dot, combine, scale, value, width, coefficients, constant, add, negate, residue, widen, widen_to, unit_form, remove, opposite, tighten, floor_divided, same_form}
pub use Rattle.pip_model.specs.Problem.{is_vector, lex_less, Problem, all_nonneg, InContext, Feasible, FeasibleAt}
pub use Rattle.pip_model.specs.Tree.{Ratio, Tree, Bottom, Leaf, If, NewParm, Component, Answer, Void, Solved, component_value, tree_value, is_component, is_form, is_scoped, IsWellFormed, nesting}
pub use Rattle.pip_model.specs.Right.{IsPoint, IsMinimum, IsRight, IsWholeMinimum, IsRationalMinimum}
pub use Rattle.pip_model.specs.Rows.{form_row, Row, started, row_at, widened, entering, pivot, divided, count_from, unit_row, start, other_rows, substituted, eliminated, eliminated_listed, pivot_listed, is_whole, candidates, is_better, best, entering_of, entering_listed, first_fraction, fraction_from}
pub use Rattle.pip_model.proofs.Polynomials.{var, num, ◌⊕◌, ◌⊖◌, ◌⊗◌, ring, ring_by, ring_by_2}
pub use Rattle.pip_model.proofs.Order.{factor_nn, factor_p, factor_zero, mul_pp, mul_nn, sign_cases, same_of_difference}
pub use Rattle.pip_model.proofs.Tests.{all_pass-map, every-weaken, every-parts, all_passed, both, both_true, nonneg_is, is_nonneg_is, one_le, every-append, every-take, three, all_three, if_cases, every-set, every-map, negative_is, not_nonneg, true_or_not, every-at, never_both, is_zero_is, above, same_number_is, same_form_is}
pub use Rattle.pip_model.proofs.Forms.{entry-scale, dot-take, widen_same, entry-combine, length-combine, entry-zeros, length-count, scale_one, no_coefficients}
pub use Rattle.pip_model.proofs.RingLaws.{one-*ℤ}
pub use Rattle.pip_model.proofs.Vectors.{dot-append, dot-zeros, remove-append, remove_last, value-remove}
pub use Rattle.pip_model.specs.Listed.{all_fit, combine_listed, opposite_listed}
pub use Rattle.pip_model.proofs.Fitting.{fit_head, fit_cons, fits-between, fits-floor, fit_floors, fit_remove, fit_tighten, fit_parts, fit_take, fit_drop, fit_zeros, fit_set, fit_negate, fit_mods, fit_residue, fit_widen, fit_combine, fit_substituted, scope-fits}
pub use Rattle.pip_model.specs.WellFormed.{IsRow, IsProblem, IsWellFormedAnswer}
pub use Rattle.pip_model.specs.Printed.{component_fits, tree_fits, IsPrintableAnswer}
pub use Rattle.pip_model.specs.Simplified.{same_tree, is_unused, component_without, without, simple_if, simple_new, simplified}
pub use Rattle.pip_model.specs.Values.{simplified_by}
pub use Rattle.pip_model.specs.Cuts.{residue_of, rounding, constant_cut, parametric_cut, rounded, Quotient, fractional_parts, rounded_listed, lower_bound, upper_bound, same_quotient, find_from}
pub use Rattle.pip_model.specs.Run.{Budget, Work, Done, give, left, Class, Unknown, Setting, Node, scope, Turn, row_component, turn, run_from, first_node, point, class, setting, answer_from, answer, start_work, solve, Split, leaf, Refusal, Refused, standard_budget, Plus, Minus, point_setting, class_of, root, constant_class, numbers_of, Closed, Again, Below, Overflow, Outcome, Counted, go_on, Classing, ◌>>=◌, ◌>>◌, listed, run, Pivots, Cuts, Splits, Nesting, count_pivot, count_cut, count_split, check_nesting, Signs, AllPlus, MinusAt, UnknownBy, keep, scan, scan_on, turn_by, pivot_turn, split_turn, last_turn, cut_turn, quotient_cut, known_cut, point_run, class_above, class_below, class_by_points}
pub use Rattle.pip_model.proofs.Laws.{dot-combine, floor_div-law, floor_mod-law, dot-add, dot-negate, opposite-parts, value-opposite, value-plus}
pub use Rattle.pip_model.proofs.Division.{floor-unique, Multiple, floor-exact, form-parts, divides_all, gcd-divides, gcd_of-divides, through, all_through, tighten-sign, dot-divided, value-divided}
pub use Rattle.pip_model.specs.Limits.{most_components, most_nesting}
pub use Rattle.pip_model.specs.Contexts.{IsNarrow, IsContext, IsPointRefusal, Satisfies, PointTells, ClassTells}
pub use Rattle.pip_model.proofs.Derivations.{dot-scale}
pub use Rattle.pip_model.proofs.Fuel.{falls-constant_class, enough_fuel, AtMost, Falls, Progress, falls-run_from, turned, falls-class, closed_run_from, refused_run_from, again_run, below_run, split_run}
pub use Rattle.pip_model.specs.Leaves.{Reached, IsReached}
pub use Rattle.pip_model.proofs.Simplest.{simplified-scoped, simplified-well_formed}

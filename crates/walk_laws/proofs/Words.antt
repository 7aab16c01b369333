-- The words of other modules that the proofs of this crate cite, passed on from one place. Declares nothing.
pub use Rattle.std.proofs.Common.{◌≡◌, ◌∙◌, ap, ap₂, sym, refl, ℕ, List, [], ◌∷◌, ◌++◌, append_assoc, append-nil, ◌+◌, ◌-◌, true, ◌==◌, inr, length, ℤ, pos, take, zero, suc, arith, Bool, false, ◌&&◌, Option, Some, None, negsuc, ◌+ℤ◌, ◌-ℤ◌, ◌*ℤ◌, neg_ℤ, ◌≤ℤ◌, ◌<ℤ◌, eqb-true, subst, eq-eqb, ◌≤◌, inl, length-append, ◌^◌, ◌<◌, ◌⊎◌}
pub use Rattle.std.proofs.lemmas.List.{map-append, take-append-drop, length-take-le, take-take}
pub use Rattle.std.specs.Prelude.{map, flat_map, codes, drop, replicate, int_le, nat_le, if◌then◌else◌, IsTrue, int_lt, nat_lt, filter, not}
pub use Rattle.std.specs.List.{list_all}
pub use Rattle.std.proofs.lemmas.Int.{ints}
pub use Rattle.std.proofs.Math.Seq.{take-append_seam}
pub use Rattle.std.proofs.Math.IntN.{+ℤ_idr, *ℤ_comm}
pub use Rattle.pip_model.specs.Forms.{opposite, negate, value, constant, plus, dot, widen, widen_to, coefficients}
pub use Rattle.pip_model.specs.Tree.{Tree, Bottom, Leaf, If, NewParm, Component, is_scoped, component_value, is_form, is_component, Answer, Void, Solved, Ratio, tree_value, size, nesting, IsWellFormed, leaves}
pub use Rattle.pip_model.specs.PieceText.{Entry, Where, Define, Piece, piece_below, pieces, spell_entry, spell_piece, led_by, is_led, holds_at, value_at_end}
pub use Rattle.pip_model.specs.Numbers.{fits, gcd, gcd_of, same_number, is_nonneg, floor_div}
pub use Rattle.pip_model.specs.Listed.{all_fit, opposite_listed}
pub use Rattle.pip_model.specs.Printed.{component_fits, tree_fits, IsPrintableAnswer}
pub use Rattle.pip_model.specs.Run.{Class, Plus, Minus, Unknown, class, listed, check_nesting, point, Work, standard_budget, start_work, count_split, Refusal, Nesting, Refused, Budget, Outcome, Done, Counted, Overflow, Splits}
pub use Rattle.pip_model.specs.Walks.{ToolRefusal, ByRun, Negative, Lengths, Walked, Made, Stopped, Walking, ◌>>=◌, ◌>>◌, make, stop, by_run, Visit, where_holds, Walker, by_class, walk, below, start_visit, walk_on, walked_as, below_listed, not_negative}
pub use Rattle.pip_model.specs.Tools.{if_of, restricting, spread, spread_component, spread_tree, second_at, widened_component, widened_components, difference, difference_listed, count_if, not_below, least_lists, least_leaves, choosing, least_second, least_first, first_numbers, differ_here, differ_or, same_lists, same, same_leaves, comparing, restrict, Same, Differ, least, first_of_both, restrict_on, tree_or_bottom, least_on, same_second, same_first, Sameness, sameness, same_on}
pub use Rattle.pip_model.proofs.Tests.{all_pass-map, both, three, both_true, all_three, if_cases, chosen_true, chosen_false, same_number_yes, same_number_no, less_true, nonneg_is, is_nonneg_is, negative_is, not_nonneg, not_true, one_le, one_at_least}
pub use Rattle.run_laws.proofs.Ensured.{ends-listed, OnDone, Ensures, OnEnd, Ends, ensures-weaken}
pub use Rattle.pip_model.specs.ToolLaws.{same_ratio, same_point, IsSplitRefusal, same_found, same_value, MeetsNegative, IsRestriction, IsSameness, IsLeastAnswer, meets_negative, lesser, HasComponents, EqualLengths, IsRestricted, IsRestrictRefusal, IsSameRefusal, ratio_below, point_below, found_at, IsLesser, IsLeastRefusal, IsPieceAt}
pub use Rattle.pip_model.proofs.Laws.{value-plus, value-opposite, dot-negate, value-combine, opposite-parts}
pub use Rattle.run_laws.proofs.Scopes.{affine, value-affine, Narrow, narrow_both, less_context, more_context, last_holds, length-plus, length-opposite, InScope, value-widen_to, affine-more, length-widen_to}
pub use Rattle.run_laws.proofs.PointRight.{IsPointOf, point_right}
pub use Rattle.pip_model.specs.Limits.{most_components, most_nesting}
pub use Rattle.run_laws.proofs.Lengths.{length_map, length_drop, length_zeros, length_negate}
pub use Rattle.pip_model.specs.Contexts.{IsContext, Satisfies, IsPointRefusal}
pub use Rattle.pip_model.specs.Leaves.{Reached}
pub use Rattle.pip_model.specs.WellFormed.{IsWellFormedAnswer}
pub use Rattle.run_laws.proofs.Turns.{reached_more}
pub use Rattle.run_laws.proofs.PointRefusals.{point-refusal, class-refusal}
pub use Rattle.run_laws.proofs.ContextRight.{narrow_of, scope_of, of_scope, context_of}
pub use Rattle.pip_model.specs.Cuts.{Quotient}
pub use Rattle.run_laws.proofs.Logics.{Any, counted}
pub use Rattle.pip_model.proofs.Forms.{dot-take, length-combine}
pub use Rattle.run_laws.proofs.ClassRight.{FormTells, class_right}

-- The words of other modules that the proofs of this crate cite, passed on from one place. Declares nothing.
pub use Rattle.std.proofs.Common.{◌≡◌, refl, ap, sym, ◌∙◌, ℕ, suc, ◌+◌, ◌-◌, ◌<◌, ◌^◌, ℤ, pos, negsuc, arith, List, [], ◌∷◌, ◌++◌, length, Bool, true, false, cond, length-append, inl, inr, ltb-true, append_assoc, ◌≤◌, length-take, subst, length-drop, zero, ◌*◌, ◌/◌, ◌%◌, eqb-true, ap₂, le-leb}
pub use Rattle.std.proofs.lemmas.Bool.Decides.{nat_tests}
pub use Rattle.std.proofs.lemmas.List.{take_at, drop_at, drop-drop, take-append-drop, length-map, nil_from_length, take-append-le, drop-append-le, append-nil}
pub use Rattle.std.specs.Prelude.{◌&&◌, ◌==◌, take, drop, take_while, decimal, slice_index, unsigned_abs, if◌then◌else◌, ◌⊎◌, IsTrue, Ok, Some, IfSome, Err, None, Option, ◌↔◌, IfOk, codes, ◌*ℤ◌, map, int_le, Result, neg_ℤ, not, ⊤, nat_lt, fold, nat_le}
pub use Rattle.std.specs.Fmt.{signed_decimal}
pub use Rattle.std.specs.List.{list_all, AllByRecursion, prefix_len}
pub use Rattle.std.proofs.lemmas.Bool.{cases_Bool}
pub use Rattle.std.specs.Int.{◌∣◌, IsGcd}
pub use Rattle.std.proofs.Math.Nat.{mul-div_cancel', le_of_dvd, eq_of_mul-eq-mul_left, mul-div_left, dvd_trans, dvd-zero, dvd-mul_left, eq-one_of_dvd-one, dvd_refl, one-dvd, dvd-mul_right, dvd_of_mul-dvd-mul_left, pos_of_dvd_of_pos, mul-dvd-mul_left, div-one}
pub use Rattle.std.proofs.Math.IntN.{*ℤ_comm}
pub use Rattle.std.proofs.lemmas.List.Folds.{list_all-append, length-prefix_len}
pub use Rattle.std.proofs.lemmas.List.Sums.{fold-append, prefix_len-le-length}
pub use Rattle.pip_model.specs.declared.Kind.{Kind}
pub use Rattle.pip_model.specs.declared.Kind.TheVariants.{LeftParen, RightParen, LeftRow, RightRow, Number, Fraction, Word, WideNumber, WideFraction, Finish, Bad}
pub use Rattle.pip_model.specs.Numbers.{fits, same_number, floor_div, gcd, gcd_of, is_zero, is_nonneg}
pub use Rattle.pip_model.specs.Tokens.{is_digit, is_letter, is_sign, is_blank, natural_of, unsigned_part, digits_at, integer_of, number_kind, fraction_kind, lexeme, behind_stroke, numeral_at, token_here, token, same_bytes, spells, is_word}
pub use Rattle.pip_model.proofs.Tests.{both, not_is, three, if_cases, one_at_least}
pub use Rattle.pip_model.specs.Limits.{most_nesting, most_unknowns, most_params, most_rows, most_context_rows, most_components}
pub use Rattle.pip_model.specs.TreeText.{spell, Commented, read_answer, spell_fraction, spell_fractions, fractions, common_denominators, last_of, component_of, component, lowest_terms, fraction_of, components, read_form, expect_word, Head, Ends, Lists, Chooses, Defines, head, scope_number, divisor, definition, room_for, behind_head, tree_by, tree, tree_or_void, commented_at, spell_numbers, spell_form, head_of, spell_components, spell_tree, spell_answer}
pub use Rattle.pip_model.specs.Certificate.{Certificate, spell_certificate, read_certificate, term, step, list_of, shared_steps, leaf_proofs, version, vector, certificate_at, Step, Refutation, LeafProofs, spell_terms, spell_steps, spell_refutations, spell_leaves, spell_vector, groups, format}
pub use Rattle.pip_model.specs.Printed.{IsCommented, certificate_fits, IsGroup, step_fits, steps_fit, shared_fit, leaf_fits, vector_fits, component_fits, tree_fits, IsPrintableAnswer, IsCommentedAnswer, has_few, few_steps}
pub use Rattle.pip_model.specs.Reading.{closing, open_after, group, Syntax, same_bracket, Reads, expect, group_to, next_open, item, Version, number, up_to, Fault, Wide, TooNested, Components, Limit, BigParameter, ◌>>=◌, number_of, within, no_big_parameter, numbers, row, rows, block, item_at}
pub use Rattle.pip_model.specs.declared.Lexeme.{Lexeme}
pub use Rattle.pip_model.specs.Moved.{moved, is_closed, Alone, Ended, moved_fault}
pub use Rattle.pip_model.specs.declared.LimitKind.TheVariants.{Unknowns, Parameters, Rows, ContextRows, Columns, ContextColumns}
pub use Rattle.pip_model.specs.NativeText.{problem_at, read_native, form_of_row}
pub use Rattle.pip_model.specs.Listed.{all_fit}
pub use Rattle.pip_model.specs.Tree.{Component, is_component, is_form, Tree, Bottom, Leaf, If, NewParm, Void, Solved, Answer, is_scoped, nesting}
pub use Rattle.pip_model.proofs.Gcd.{common, common-IsGcd, euclid-scaled, times-one, div_one, size-divided}
pub use Rattle.pip_model.proofs.Fitting.{fits-le, fit_join, fit_take, fit_drop, fit_entry, fit_negate}
pub use Rattle.pip_model.proofs.Forms.{length-form}
pub use Rattle.pip_model.specs.declared.LimitKind.{LimitKind}
pub use Rattle.std.proofs.lemmas.Int.{ints}

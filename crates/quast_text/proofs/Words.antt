-- The words of other modules that the proofs of this crate cite, passed on from one place. Declares nothing.
pub use Rattle.std.proofs.Common.{◌≡◌, ℕ, zero, suc, ◌+◌, ◌-◌, arith, sub-one, false, ◌==◌, pos, List, refl, Bool, true, Ok, Err, Result, ◌↔◌, IsTrue, ◌∙◌, ap, sym, ◌<◌, ◌≤◌, ℤ, ◌&&◌, IsFalse, [], ◌∷◌, ◌++◌, length, take, drop, get_or, map, negsuc, ◌≤ℤ◌, ◌*ℤ◌, unsigned_abs, append_assoc, codes, if◌then◌else◌, ◌%◌, flat_map, ◌*◌, rules, length-append, to_z, of_z, ap₂}
pub use Rattle.std.specs.Prelude.{Option, Some, None, IfOk, IfSome, All, int_le, OnOk, is_err}
pub use Rattle.std.proofs.lemmas.List.{drop_more, take_more, take_all, map-append, append-nil}
pub use Rattle.std.proofs.lemmas.Int.{ints}
pub use Rattle.std.proofs.Math.Nat.{le_of_dvd, pos_of_dvd_of_pos}
pub use Rattle.std.specs.Fmt.{signed_decimal}
pub use Rattle.std.proofs.lemmas.Result.{err_from_is_err_and}
pub use Rattle.std.proofs.lemmas.List.Elements.{All-push, All-cons, All-nil}
pub use Rattle.std.specs.Int.{w128}
pub use Rattle.pip_model.specs.declared.Kind.TheVariants.{RightParen, LeftRow, LeftParen, RightRow}
pub use Rattle.pip_model.specs.Limits.{most_components, most_params}
pub use Rattle.pip_model.specs.Reading.{Components, ◌>>=◌, same_bracket, expect, Fault, Wide, TooNested, Reads, group}
pub use Rattle.pip_model.specs.TreeText.{component, components, common_denominators, last_of, component_of, fractions, spell_fraction, spell_fractions, spell_components, Head, Ends, Lists, Chooses, Defines, head, room_for, behind_head, tree_by, tree, read_answer, definition, spell_tree, read_form, tree_or_void, commented_at}
pub use Rattle.text_reading.proofs.Ends.{behind, list_by, full_by, list_end, list_more, list_refused}
pub use Rattle.affine_forms.specs.Checks.{Fits}
pub use Rattle.pip_model.specs.Numbers.{fits, lcm, floor_div, gcd, gcd_of, same_number, euclid}
pub use Rattle.pip_model.specs.Listed.{all_fit}
pub use Rattle.pip_model.specs.Tree.{Component, reduced, is_form, Tree, Bottom, Leaf, NewParm, If}
pub use Rattle.text_laws.proofs.ReadPlaces.{Read, ok_value}
pub use Rattle.pip_model.proofs.Gcd.{common-IsGcd, quotient_positive, floor_divided_one, div_one}
pub use Rattle.text_reading.proofs.Fronts.{one_more, step_more, refused_more}
pub use Rattle.text_reading.specs.Fronts.{with_front}
pub use Rattle.quast.specs.Trees.{ScopedTree, tree_of}
pub use Rattle.quast.specs.Components.{IsComponent}
pub use Rattle.pip_model.specs.Printed.{IsCommented, IsPrintableAnswer}
pub use Rattle.text_printing.proofs.Spellings.{written, spelt_more}
pub use Rattle.quast_text.specs.Trees.{next_component, opening}
unfoldable pub use Rattle.quast_text.specs.Trees.{components_behind, list_at, choice_at, quotient_opening, closed_divisor, definition_at, define_at}
pub use Rattle.quast_text.specs.Faults.{text_fault}
pub use Rattle.quast_text.specs.Fractions.{numerator_of, next_fraction}
unfoldable pub use Rattle.quast_text.specs.Fractions.{bracketed_fractions}
pub use Rattle.quast_text.specs.Printing.{spell_denominator, spell_term, spell_component}
pub use Rattle.pip_model.specs.Tokens.{token}
pub use Rattle.pip_model.proofs.Tests.{three, same_number_is, same_number_no}
pub use Rattle.text_reading.proofs.Binds.{bind_assoc, refused_by}
pub use Rattle.text_reading.specs.Steps.{fault_of, IsRead}

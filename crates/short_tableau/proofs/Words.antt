-- The words of other modules that the proofs of this crate cite, passed on from one place. Declares nothing.
pub use Rattle.std.proofs.Common.{rules, ◌≡◌, refl, ap, sym, ◌∙◌, ℕ, zero, suc, ◌+◌, ◌<◌, ◌≤◌, ℤ, pos, negsuc, ◌≤ℤ◌, ◌*ℤ◌, ◌-ℤ◌, Bool, true, false, List, [], ◌∷◌, ◌++◌, length, take, drop, arith, append-nil, length-append, length-drop, length-set, subst, ◌-◌, ◌*◌, neg_ℤ, map, to_z, of_z, slice_index_or}
pub use Rattle.std.proofs.lemmas.Int.{fits_signed_from_abs, to_z-of_z, ints}
pub use Rattle.std.proofs.Math.Bool.{and-false}
pub use Rattle.std.proofs.lemmas.List.{take_at, drop_at, take_all, drop_all, take-append-drop, length-map, drop_more, set_at, get_or_at, map-append, get_or-map, get_or-set_same, get_or-drop, get_or-take, length-take-le, take-append-le, drop-append-le, set-get_or, get_or-set_other}
pub use Rattle.std.proofs.lemmas.List.Folds.{list_all-append, list_all_at}
pub use Rattle.std.specs.Prelude.{FitsSigned, slice_set, None, All, IsTrue, flat_map, if◌then◌else◌, slice_range, Some, IsFalse, IfSome, int_lt, ◌+ℤ◌, ◌≢◌, Option, is_some}
pub use Rattle.std.specs.List.{list_all, list_any}
pub use Rattle.std.proofs.lemmas.List.Elements.{All-head, All-tail, All-take, All-drop, All-append, All-set, All-same, All-push, All-cons}
pub use Rattle.std.proofs.Math.Nat.{suc-mul, add-mul}
pub use Rattle.std.specs.Int.{w64, w128}
pub use Rattle.pip_model.proofs.Forms.{length-combine, entry-combine}
pub use Rattle.pip_model.specs.Numbers.{gcd, gcd_of, floor_div, fits, same_number, floor_mod, is_positive, is_nonneg, is_zero, divides}
pub use Rattle.pip_model.specs.Forms.{combine, entry, floor_divided, negate, residue, constant, widen_to, width}
pub use Rattle.pip_model.specs.Rows.{Row, divided, row_at, form_row, eliminated_listed, pivot_listed, cross_products, up_to_difference, is_better, best_listed, entering_of_listed, entering_listed, candidates, substituted, eliminated, unit_row, pivot, fraction_from, first_fraction, is_whole, entering_of}
pub use Rattle.pip_model.proofs.Gcd.{gcd_between, quotient_positive}
pub use Rattle.row_laws.specs.Short.{IsShort, IsShortRow}
pub use Rattle.row_laws.specs.Rows.{row_from}
pub use Rattle.row_laws.specs.Tableaus.{TableauRows, with_row}
pub use Rattle.pip_model.specs.Listed.{all_fit}
pub use Rattle.pip_model.specs.Cuts.{constant_cut, fractional_parts, residue_of}
pub use Rattle.affine_forms.proofs.Mapped.{mapped, mapped_step, mapped_read}
pub use Rattle.row_laws.specs.Flat.{row_of_numbers, numbers_of}
pub use Rattle.row_laws.proofs.Contents.{content-divided}
pub use Rattle.row_laws.proofs.Substituting.{eliminated_none, some_product}
pub use Rattle.row_laws.specs.Choices.{IsCandidate, choice, candidates_from, product_at}
pub use Rattle.short_row.specs.Turned.{is_short_row}
pub use Rattle.short_tableau.specs.Turned.{AreTurned}
pub use Rattle.short_row.specs.Sized.{IsShortReduced, row_size, IsPivot, places_of}
pub use Rattle.short_tableau.specs.Dense.{rows_in, IsDense}
pub use Rattle.short_row.specs.Rows.{row_of}
pub use Rattle.short_tableau.specs.Below.{negative_from}
pub use Rattle.row_laws.proofs.Numbers.{numbers_again, row_again}
pub use Rattle.short_row.proofs.ShortParts.{short_row, divided_positive, row_join, unit_reduced}
pub use Rattle.short_tableau.specs.Ended.{IsEndedBy, turned_by}
pub use Rattle.short_row.proofs.UnitNumbers.{form_written, form_short, written_step, short_step, form_kept}

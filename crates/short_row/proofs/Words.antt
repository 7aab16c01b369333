-- The words of other modules that the proofs of this crate cite, passed on from one place. Declares nothing.
pub use Rattle.std.proofs.Common.{rules, ◌≡◌, refl, ap, sym, ◌∙◌, ℕ, zero, suc, ◌+◌, ◌<◌, ◌≤◌, ℤ, pos, negsuc, ◌≤ℤ◌, ◌*ℤ◌, ◌-ℤ◌, Bool, true, false, ◌&&◌, List, [], ◌∷◌, ◌++◌, length, take, drop, get_or, set, arith, append-nil, append_assoc, length-append, length-drop, length-set, subst, ◌-◌, map, replicate, to_z, of_z, add-one, unsigned_abs}
pub use Rattle.std.proofs.lemmas.Int.{ints, to_z-of_z, unsigned_abs-mul, fits_signed_from_abs}
pub use Rattle.std.proofs.Math.Bool.{and-false}
pub use Rattle.std.proofs.lemmas.Bool.{lt-ltb}
pub use Rattle.std.proofs.lemmas.List.{take_at, drop_at, take_all, drop_all, take-append-drop, length-take, length-map, drop_more, take_more, set_at, get_or_at, map-set, map-append, get_or-map, get_or-set_same, get_or-take, length-take-le, length-replicate, set-append_left, length_push, drop-replicate, take-replicate, set-get_or, take-map, drop-map, replicate-append-replicate, drop-set-lt}
pub use Rattle.std.proofs.lemmas.List.Folds.{list_all-append, list_all_at}
pub use Rattle.std.specs.Prelude.{slice_set, None, All, slice_index_or, Some}
pub use Rattle.std.specs.List.{list_all, AllByRecursion}
pub use Rattle.std.proofs.lemmas.List.Elements.{All-take, All-drop, All-append, All-set, All-replicate, All-same, All-push, All-cons, All-from_recursion, recursion_from_All}
pub use Rattle.std.specs.Int.{w64, w128}
pub use Rattle.std.proofs.lemmas.Grind.{common_steps}
pub use Rattle.pip_model.proofs.Forms.{length-combine, entry-combine, scale_one, length-widened}
pub use Rattle.pip_model.specs.Numbers.{gcd, gcd_of, floor_div}
pub use Rattle.pip_model.specs.Forms.{combine, entry, floor_divided, constant, width, coefficients, widen_to, scale}
pub use Rattle.pip_model.specs.Rows.{Row, divided, form_row, eliminated, unit_row}
pub use Rattle.pip_model.proofs.Gcd.{gcd_assoc, gcd_zero, gcd_exchanged, gcd_between, quotient_positive, gcd_one, common-IsGcd, multiple-dvd, gcd_of-greatest, times-one, euclid_only}
pub use Rattle.affine_forms.proofs.Divisors.{gcd_step}
pub use Rattle.row_laws.proofs.Combining.{combined, combined_step}
pub use Rattle.row_laws.specs.Short.{is_short, IsShort, IsShortRow}
pub use Rattle.row_laws.specs.Rows.{row_from, IsRow, content, IsOwnRow}
pub use Rattle.row_laws.proofs.ShortRows.{fits_short, short_fit}
pub use Rattle.affine_forms.proofs.Mapped.{mapped, mapped_step, mapped_read}
pub use Rattle.row_laws.specs.Flat.{row_of_numbers, numbers_of}
pub use Rattle.row_laws.proofs.Contents.{content-divided, content-one, content-divides}
pub use Rattle.row_laws.proofs.Substituting.{row_parts, some_product}
pub use Rattle.short_row.specs.Begun.{finished, begun_coefs, begun_constant, begun_row, begun_divisor, IsBegun}
pub use Rattle.short_row.specs.Turned.{is_short_row, IsDenominatorOf, IsTurned}
pub use Rattle.short_row.specs.Sized.{IsShortReduced, places_of}
pub use Rattle.short_row.specs.Rows.{row_of}
pub use Rattle.short_row.specs.Terms.{IsDivisor, IsNarrowed, AreTerms}
pub use Rattle.short_numbers.specs.Short.{IsShortDivisor}
pub use Rattle.row_laws.specs.Lowest.{AreLowest, substituted_by}
pub use Rattle.row_laws.proofs.Lowest.{eliminated-lowest, divisor-lowest, lowest-alone, lowest-divided}
pub use Rattle.row_laws.proofs.Places.{take_combine, drop_combine}
pub use Rattle.row_laws.proofs.RowLaws.{divided_row, divided_one, divided_whole}
pub use Rattle.pip_model.proofs.RingLaws.{*ℤ_left_comm, *ℤ_assoc}
pub use Rattle.short_row.specs.declared.begun.BegunRow.{BegunRow}
pub use Rattle.std.proofs.lemmas.Nat.Gcd.{dvd_antisymm, dvd_refl, IsGcd-swap}
pub use Rattle.short_row.specs.Whole.{scaled_front, IsHalfDivisor}
pub use Rattle.row_laws.proofs.Stepping.{own_row}
pub use Rattle.std.proofs.Math.Seq.{take-set-lt}

-- The words of other modules that the proofs of this crate cite, passed on from one place. Declares nothing.
pub use Rattle.std.proofs.Common.{◌≡◌, refl, sym, subst, ◌∙◌, ℕ, ◌-◌, ◌<◌, pos, ◌≤ℤ◌, Bool, length, arith, ◌+◌, ◌^◌, ℤ, unsigned_abs, List, [], ◌∷◌, ◌++◌, replicate, take, drop, get_or, to_z, of_z, ap, flat_map, zero, suc, negsuc, ◌*ℤ◌, true, false, ◌&&◌, length-set, ◌≤◌, append-nil, append_assoc, map, length-append, ◌-ℤ◌, set, ◌+ℤ◌, neg_ℤ, ◌*◌, Option, Some, None}
pub use Rattle.std.specs.Prelude.{IsTrue, IsFalse, All, slice_set, filter, int_lt, if◌then◌else◌}
pub use Rattle.std.specs.List.{list_all, AllByRecursion}
pub use Rattle.std.proofs.lemmas.Bool.{ltb-true, lt-ltb}
pub use Rattle.std.proofs.lemmas.List.Sums.{AllPass-from_list_all, list_all-from_AllPass}
pub use Rattle.std.proofs.lemmas.List.Elements.{All-append, All-take, All-drop, All-replicate, All-cons, All-nil, All-head, All-tail, All-get_or, All-map, All-set, All-push}
pub use Rattle.std.specs.Int.{w128, ◌∣◌}
pub use Rattle.std.proofs.lemmas.Int.{to_z-of_z, fits_signed_from_abs, ints, unsigned_abs-mul}
pub use Rattle.std.proofs.lemmas.List.{take_at, drop_at, drop-replicate, take-replicate, length-replicate, length-drop, take-append-drop, take_all, get_or-drop, take_more, replicate_more, length-take, map-append, drop_more, set_at, get_or_at, drop_all, length-map, get_or-map, take-map, drop-map, set-append_right, set-get_or, get_or-take, map-set}
pub use Rattle.std.proofs.lemmas.Grind.{flat_map-append}
pub use Rattle.std.proofs.lemmas.List.Folds.{list_all-append}
pub use Rattle.pip_model.specs.Forms.{entry, width, coefficients, constant, combine, remove, floor_divided, negate, residue, unit_form, add, scale}
pub use Rattle.pip_model.specs.Rows.{Row, divided, eliminated, widened, eliminated_listed, substituted, pivot_listed, row_at, unit_row, count_from, candidates, form_row, cross_products, up_to_difference, is_better}
pub use Rattle.pip_model.specs.Listed.{all_fit, combine_listed}
pub use Rattle.short_numbers.specs.Checks.{Fits}
pub use Rattle.short_numbers.proofs.Short.{short_fits, product_fits}
pub use Rattle.pip_model.proofs.Forms.{length-combine, entry-negate, entry-scale, scale_one}
pub use Rattle.pip_model.specs.Numbers.{fits, is_positive, is_zero, same_number, gcd, gcd_of, floor_div, euclid}
pub use Rattle.pip_model.proofs.Tests.{both, is_zero_is, same_number_is, same_number_no, same_number_yes}
pub use Rattle.short_numbers.proofs.Divisors.{gcd_assoc, floor_divided_one}
pub use Rattle.short_numbers.proofs.Combined.{listed_at}
pub use Rattle.pip_model.specs.Cuts.{residue_of, rounding, rounded_listed}
pub use Rattle.short_numbers.specs.Forms.{raised}
pub use Rattle.pip_model.proofs.Division.{floor-unique, floor-exact, gcd-divides, gcd_of-divides, all_through, through, Multiple}
pub use Rattle.pip_model.proofs.Gcd.{common, common-scaled, gcd-greatest, gcd_of-greatest, common-IsGcd, times-one, size-divided, size-gcd_of, gcd_one, gcd_zero, size_opposite, gcd_opposite, gcd_of_negate, gcd_exchanged, gcd_between, multiple-dvd, dvd-multiple}
pub use Rattle.row_laws.specs.Lowest.{AreLowest, substituted_by}
pub use Rattle.row_laws.specs.Rows.{IsRow, IsOwnRow, IsReduced, row_from, content}
pub use Rattle.row_laws.specs.Short.{IsShortRow, is_short, IsShort}
pub use Rattle.row_laws.specs.Steps.{IsPivotRow, IsElimination, MakesRow, IsMadeReduced}
pub use Rattle.row_laws.specs.Flat.{numbers_of, row_of_numbers, is_unit, is_unit_row}
pub use Rattle.row_laws.specs.Choices.{product_at, compared, better, better_listed, choice, choice_listed, candidates_from}
pub use Rattle.std.proofs.lemmas.Nat.Gcd.{dvd_antisymm, dvd-zero}
pub use Rattle.std.proofs.Math.Nat.{eq-one_of_dvd-one, pos_of_dvd_of_pos}
pub use Rattle.pip_model.proofs.Polynomials.{var, ◌⊖◌, ◌⊗◌, ring, ◌⊕◌}

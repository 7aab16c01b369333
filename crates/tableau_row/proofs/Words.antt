-- The words of other modules that the proofs of this crate cite, passed on from one place. Declares nothing.
pub use Rattle.std.proofs.Common.{◌≡◌, refl, sym, subst, ◌∙◌, ℕ, ◌-◌, ◌<◌, pos, ◌≤ℤ◌, length, arith, ◌+◌, ℤ, List, [], ◌∷◌, ◌++◌, replicate, take, drop, get_or, to_z, of_z, ap, suc, ◌*ℤ◌, true, false, length-set, ◌≤◌, append-nil, map, length-append, ◌-ℤ◌, vec_len, vec_capacity, rules}
pub use Rattle.std.specs.Prelude.{IsTrue, IsFalse, All, slice_set, Vec}
pub use Rattle.std.proofs.lemmas.List.Elements.{All-append, All-take, All-drop, All-cons, All-set}
pub use Rattle.std.specs.Int.{w128, w64}
pub use Rattle.std.proofs.lemmas.Int.{to_z-of_z, ints}
pub use Rattle.std.proofs.lemmas.List.{take_at, drop_at, take-append-drop, take_all, map-append, drop_all, length-map, get_or-take}
pub use Rattle.std.proofs.lemmas.Grind.{common_steps}
pub use Rattle.pip_model.specs.Forms.{entry, width, combine, floor_divided, negate, add}
pub use Rattle.pip_model.specs.Rows.{Row, divided, eliminated, widened, eliminated_listed}
pub use Rattle.pip_model.specs.Listed.{all_fit, combine_listed}
pub use Rattle.affine_forms.specs.Checks.{Fits}
pub use Rattle.pip_model.proofs.Forms.{length-combine}
pub use Rattle.pip_model.specs.Numbers.{fits, is_zero, gcd, gcd_of, floor_div}
pub use Rattle.affine_forms.proofs.Divisors.{gcd_assoc, floor_divided_one, gcd_step}
pub use Rattle.affine_forms.proofs.Combined.{listed_step, listed_refused, listed_end}
pub use Rattle.pip_model.specs.Cuts.{residue_of, rounding, rounded_listed, rounded}
pub use Rattle.affine_forms.specs.Forms.{raised}
pub use Rattle.pip_model.proofs.Gcd.{quotient_positive, gcd_one, gcd_zero, gcd_between}
pub use Rattle.affine_forms.proofs.Mapped.{mapped, mapped_step}
pub use Rattle.row_laws.specs.Lowest.{AreLowest, substituted_by, AreReduced}
pub use Rattle.row_laws.specs.Rows.{IsRow, IsOwnRow, IsReduced, row_from, content}
pub use Rattle.row_laws.specs.Short.{IsShortRow, is_short, IsShort, AreShortRows}
pub use Rattle.row_laws.specs.Steps.{IsElimination, MakesRow, IsMadeReduced}
pub use Rattle.tableau_row.specs.Room.{Appends}
pub use Rattle.row_laws.specs.Flat.{numbers_of, row_of_numbers}
pub use Rattle.tableau_row.specs.Views.{row_of}
pub use Rattle.row_laws.proofs.Contents.{content-divided}
pub use Rattle.row_laws.proofs.RowLaws.{divided_one, divided_row, divided_whole}
pub use Rattle.row_laws.proofs.ShortRows.{short_fit, fits_short}
pub use Rattle.row_laws.proofs.ShortHeld.{short_held, short_entry_held}
pub use Rattle.row_laws.proofs.Places.{drop_two, eliminated_parts}
pub use Rattle.row_laws.proofs.Lowest.{eliminated-lowest, divisor-lowest, reduced-lowest, lowest-divided}
pub use Rattle.row_laws.proofs.Numbers.{row_again, row_over}
pub use Rattle.row_laws.proofs.Stepping.{made_further, made_reduced, reduced_by, own_row, pivot_over}
pub use Rattle.row_laws.proofs.Substituting.{some_product, row_parts, listed_parts, substituted_row}
pub use Rattle.row_laws.proofs.Combining.{short_bound, combined_step, combined_all, kept_at, kept_step, listed_sides, set_sides, listed_now, listed_behind}
pub use Rattle.row_laws.proofs.UnitRows.{unit_row_is, found, not_found, none_found}
pub use Rattle.row_laws.proofs.Solved.{solved, eliminated_unit, solved_row, solved_reduced, solved_short, solved_listed, solved_numbers, negated_step}

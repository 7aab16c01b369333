-- The words of other modules that the proofs of this crate cite, passed on from one place. Declares nothing.
pub use Rattle.std.proofs.Common.{◌≡◌, ◌∙◌, refl, ap, sym, ℕ, ◌+◌, ◌*◌, ◌<◌, ◌≤◌, ℤ, pos, negsuc, ◌*ℤ◌, ◌≤ℤ◌, unsigned_abs, arith, List, [], ◌∷◌, length, take, drop, length-drop, subst, zero, suc, ◌^◌, ◌+ℤ◌, ◌++◌, length-append, map, get_or, All, rules, w64}
pub use Rattle.std.proofs.lemmas.Int.{ints, to_z-of_z, fits_signed_from_abs}
pub use Rattle.std.proofs.lemmas.List.{get_or-take, get_or-drop, length-take-le, take_all}
pub use Rattle.pip_model.specs.Forms.{entry, scale, dot}
pub use Rattle.pip_model.specs.Rows.{divided, Row, count_from}
pub use Rattle.row_laws.specs.Flat.{row_of_numbers, numbers_of}
pub use Rattle.row_laws.specs.Tableaus.{TableauRows}
pub use Rattle.form_laws.proofs.Turning.{entry_first, length_counted}
pub use Rattle.form_basis.specs.declared.basis.Basis.{Basis}
pub use Rattle.form_basis.specs.ReadRows.{IsRead, summed, valued, combined, read}
pub use Rattle.form_laws.proofs.Columns.{summable, column_at, columns_long, column_inside, part_coef, part_place, length_over, sum_within, own_step, OwnStep, norm_more, dot_none, dot_step, basis_inside, basis_column, form_summable, place_step, combination_short}

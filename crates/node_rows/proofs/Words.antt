-- The words of other modules that the proofs of this crate cite, passed on from one place. Declares nothing.
pub use Rattle.std.proofs.Common.{◌≡◌, ◌∙◌, refl, ap, sym, subst, ℕ, zero, suc, ◌+◌, ◌*◌, ◌^◌, ◌<◌, ◌≤◌, ℤ, pos, negsuc, ◌*ℤ◌, ◌≤ℤ◌, unsigned_abs, arith, true, List, [], ◌∷◌, length, take, map, get_or, All, ◌-◌, ◌<ℤ◌, ◌++◌, rules, IfSome, is_some, w64, to_z, of_z, append-nil}
pub use Rattle.std.proofs.lemmas.Int.{ints}
pub use Rattle.std.proofs.lemmas.List.{take_all, map-append, take-append-le, length-map, append_assoc, map_more, length-append, get_or_read, take_more, get_or_append_left, get_or_push, get_or-append_right, get_or-map, length_push}
pub use Rattle.pip_model.specs.Numbers.{is_nonneg, gcd, gcd_of}
pub use Rattle.pip_model.specs.Forms.{entry, floor_divided}
pub use Rattle.pip_model.specs.Rows.{Row, count_from, row_at, form_row, eliminated, pivot, pivot_listed, entering, entering_of, entering_listed, entering_of_listed, candidates, start, unit_row}
pub use Rattle.pip_model.proofs.Forms.{entry-scale, length-count}
pub use Rattle.row_laws.specs.Short.{IsShort, IsShortRow}
pub use Rattle.tableau.specs.Tableaus.{TableauRows, with_row}
pub use Rattle.form_laws.specs.ByForm.{place, over, IsWide}
pub use Rattle.form_laws.specs.Bounds.{norm}
pub use Rattle.form_laws.specs.Columns.{part, IsScaled, IsBasis}
pub use Rattle.form_laws.proofs.Sizes.{pivot_fits, short_join}
pub use Rattle.form_laws.proofs.Columns.{part_coef, part_place, norm_more, dot_none, dot_step, all_taken, norms_more, items_more, within_more, over_taken, scaled_more, columns_step, basis_inside, combination_short, basis_column, form_summable, place_step}
pub use Rattle.node_rows.specs.declared.basis.Basis.{Basis}
pub use Rattle.node_rows.specs.ReadRows.{IsRead, placed, summed, combined, read, all_rows}
pub use Rattle.row_laws.proofs.RowLaws.{count_map}
pub use Rattle.std.proofs.lemmas.Grind.{common_steps}
pub use Rattle.pip_model.proofs.Tests.{is_nonneg_is}

-- The words of other modules that the proofs of this crate cite, passed on from one place. Declares nothing.
pub use Rattle.std.proofs.Common.{get_or, ◌≡◌, ◌∙◌, refl, ap, sym, subst, ℕ, zero, suc, ◌+◌, ◌<◌, ◌≤◌, ℤ, pos, negsuc, ◌≤ℤ◌, neg_ℤ, unsigned_abs, arith, nat_lt, Bool, true, false, ◌⊎◌, inl, inr, List, [], ◌∷◌, ◌++◌, length, length-append, All, ◌-ℤ◌, ◌*ℤ◌, length-set, take, drop, length-drop, ◌*◌, ◌^◌, ◌+ℤ◌, eqb, map, replicate, append-nil, Some, None, ◌-◌, ◌<ℤ◌, rules, to_z, of_z, Option}
pub use Rattle.std.proofs.lemmas.Int.{ints, unsigned_abs-mul, to_z-of_z}
pub use Rattle.std.proofs.lemmas.Bool.{cases_lt, cases_eq}
pub use Rattle.std.proofs.lemmas.List.{get_or_past, get_or-drop, length-take-le, take_at, drop_at, get_or-set_same, get_or-set_other, get_or_default, get_or-take, length-replicate, take_all, drop_all, get_or_push, get_or_append_left}
pub use Rattle.std.proofs.lemmas.List.Elements.{All-append, All-cons, All-nil, All-set, All-take, All-drop}
pub use Rattle.pip_model.specs.Forms.{entry, combine, scale, dot, add}
pub use Rattle.pip_model.specs.Rows.{Row, divided, eliminated, row_at, count_from, candidates, entering_of, unit_row, form_row, is_whole, fraction_from, first_fraction, is_better}
pub use Rattle.run_laws.proofs.CutsAt.{mod_multiple}
pub use Rattle.row_laws.proofs.RowLaws.{count_map}
pub use Rattle.scaled_laws.specs.Tables.{ScaledTable, with_row, column_rows}
pub use Rattle.scaled_laws.proofs.Places.{same_made, length_made, row_made, take_made, map_made, all_made}
pub use Rattle.pip_model.specs.Cuts.{constant_cut}
pub use Rattle.scaled_laws.specs.Scaled.{row_over, AreScaled}
pub use Rattle.form_laws.proofs.Turning.{entry_first, length_counted}
pub use Rattle.scaled_laws.specs.Cut.{cut_numbers, left_of}
pub use Rattle.lanes.specs.Narrow.{AreCovered, AreLanes, AreTurnable, AreAddable, IsSummable, IsFirstBelow}
pub use Rattle.lane_rows.specs.Laned.{numbers_of, numbers_at, rows_in, table_of, AreLaned, IsLaned, undivided_in, AreUnused, IsVertex}
pub use Rattle.std.specs.Prelude.{slice_set, IfSome, if◌then◌else◌, ◌&&◌, IfNone, int_lt}
pub use Rattle.form_laws.proofs.Divided.{same_entries, same_row}
pub use Rattle.scaled_laws.proofs.Scaled.{scaled_made, is_scaled, over_coef, over_place, whole_over, nonneg_over}
pub use Rattle.pip_model.proofs.Forms.{entry-combine, entry-scale, length-combine, dot-take, entry-zeros}
pub use Rattle.run_laws.proofs.Sums.{entry-set_same, entry-set_other, length-scale}
pub use Rattle.std.proofs.lemmas.Nat.{mul-le}
pub use Rattle.form_laws.proofs.Columns.{entry_within, dot_more, entry_norm, sum_within}
pub use Rattle.lane_rows.specs.Turned.{AreTurned, CanTurn}
pub use Rattle.pip_model.specs.Numbers.{floor_div, divides, is_zero, is_positive, is_nonneg}
pub use Rattle.row_laws.specs.Choices.{IsCandidate, product_at, choice, candidates_from}
pub use Rattle.form_laws.specs.Bounds.{AllWithin, norm}
pub use Rattle.form_laws.specs.ByForm.{coef, place, over, combination}
pub use Rattle.lane_rows.specs.Read.{line, IsReadable, IsFirstLeft}
pub use Rattle.lanes.proofs.Writing.{set_lanes, zeros_lanes, entry-add}
pub use Rattle.std.specs.List.{list_all}
pub use Rattle.std.specs.Int.{w32}
pub use Rattle.scaled_laws.proofs.Turned.{turned_none, turned_made, scaled_one}
pub use Rattle.pip_model.proofs.Tests.{is_nonneg_is, nonneg_is, above}
pub use Rattle.pip_model.proofs.Vectors.{dot-none}
pub use Rattle.scaled_laws.specs.Turned.{turned}

-- The words of other modules that the proofs of this crate cite, passed on from one place. Declares nothing.
pub use Rattle.std.proofs.Common.{◌≡◌, ◌∙◌, refl, ap, sym, ℕ, zero, suc, ◌+◌, ◌≤◌, ℤ, arith, List, [], ◌∷◌, ◌++◌, length, map, append-nil, ◌*◌, ◌^◌, ◌<◌, pos, ◌≤ℤ◌, append_assoc, subst, ◌-◌, negsuc, ◌*ℤ◌, ◌<ℤ◌, Bool, true, false, Option, Some, None, drop, get_or, length-append, take, rules, unsigned_abs, IsTrue, to_z, of_z}
pub use Rattle.std.proofs.lemmas.List.{length-map, map-append, drop_more, drop_all, drop-append-le, get_or-map, drop-drop, take-append-le, take_all, get_or_append_left, get_or-append-add, map_more, length-drop}
pub use Rattle.std.proofs.lemmas.List.Elements.{All-cons, All-append, All-push, All-weaker}
pub use Rattle.pip_model.specs.Forms.{widen_to, negate, entry, constant}
pub use Rattle.pip_model.specs.Rows.{start, unit_row, count_from, Row, divided, row_at, form_row, eliminated, pivot, pivot_listed}
pub use Rattle.pip_model.specs.Run.{Work}
pub use Rattle.pip_model.proofs.Forms.{length-count, length-widened, entry-scale}
pub use Rattle.row_laws.specs.Tableaus.{TableauRows, with_row}
pub use Rattle.point_turns.specs.Points.{has_point, finds_point, first_rows}
pub use Rattle.point_turns.specs.Turns.{negative_from}
pub use Rattle.pip_model.specs.Cuts.{constant_cut, fractional_parts, residue_of}
pub use Rattle.form_basis.specs.Bounds.{norm}
pub use Rattle.form_basis.specs.declared.basis.Basis.{Basis}
pub use Rattle.form_basis.specs.ReadRows.{read, IsRead, valued, combined, IsMeasured, summed}
pub use Rattle.form_run.specs.FlatLists.{NumberLists, lists_in}
pub use Rattle.form_run.specs.Held.{IsHeld, all_rows, IsAbove, behind}
pub use Rattle.std.specs.Prelude.{if◌then◌else◌, flat_map, All}
pub use Rattle.std.proofs.lemmas.Int.{ints}
pub use Rattle.pip_model.specs.Numbers.{is_nonneg, floor_div}
pub use Rattle.form_basis.specs.ByForm.{place, over}
pub use Rattle.form_basis.proofs.Invariant.{wide_by_form}
pub use Rattle.form_basis.proofs.ReadForms.{constant_is, size_is, short_is, divided_is, numbers_made}
pub use Rattle.short_run.proofs.FurtherRows.{negative-front, row_at-front}
pub use Rattle.std.proofs.lemmas.Nat.{mul-le}
pub use Rattle.pip_model.specs.Listed.{all_fit}
pub use Rattle.form_basis.proofs.Within.{none_refused, start_read, forms_pivot}
pub use Rattle.form_run.specs.Factors.{factors_of}
pub use Rattle.row_laws.specs.Flat.{row_of_numbers}
pub use Rattle.row_laws.specs.Short.{IsShortRow, IsShort}
pub use Rattle.form_basis.specs.Columns.{part, IsScaled}
pub use Rattle.form_basis.proofs.Columns.{items_more, within_more, over_taken, all_taken, scaled_more, columns_step, norms_more}
pub use Rattle.pip_model.proofs.Tests.{is_nonneg_is}
pub use Rattle.short_run.proofs.Ending.{below_behind}
pub use Rattle.std.proofs.Common.{◌+ℤ◌, ◌-ℤ◌, ◌⊎◌, inl, inr, ◌/◌, if◌then◌else◌}
pub use Rattle.pip_model.specs.Forms.{dot}
pub use Rattle.form_run.specs.declared.marks.Mark.{Mark}
pub use Rattle.form_run.specs.Marks.{IsMark, IsMarkOf, StaysAbove, IsMarked, NoneLess, NormsWithin, ValuesFrom, IsBelowAt, value_at}

-- The words of other modules that the proofs of this crate cite, passed on from one place. Declares nothing.
pub use Rattle.std.proofs.Common.{◌≡◌, refl, ap, sym, ◌∙◌, subst, ℕ, ◌+◌, ◌-◌, ◌<◌, ◌≤◌, ℤ, List, [], ◌∷◌, ◌++◌, length, get_or, map, take, drop, arith, suc, append_assoc, append-nil, length-append, zero, pos, replicate, max, true, false, ◌≢◌, ◌≤ℤ◌, rules, Bool, vec_len, ◌*◌, not, ◌*ℤ◌, ◌&&◌, get_or-set_other}
pub use Rattle.std.specs.Prelude.{IsTrue, All, slice_set, IsFalse, filter, flat_map}
pub use Rattle.std.proofs.lemmas.List.{length-drop, length-map, length_push, length-take-le, take-map, drop-map, take_all, take-append-drop, map-append, take_more, drop-append-le, drop-replicate, take-replicate, length-replicate, drop_at, take_at, take-append-le, get_or-take, get_or-drop, get_or-replicate, get_or-map}
pub use Rattle.std.proofs.lemmas.List.Elements.{All-head, All-tail, All-take, All-drop, All-push, All-weaker, All-same, filter-append}
pub use Rattle.std.proofs.lemmas.Grind.{flat_map-append, common_steps}
pub use Rattle.pip_model.specs.Listed.{all_fit}
pub use Rattle.pip_model.specs.Rows.{Row, row_at, eliminated, eliminated_listed, unit_row, form_row, pivot, pivot_listed, divided, count_from, widened}
pub use Rattle.row_laws.specs.Rows.{IsRow, IsReduced}
pub use Rattle.row_laws.specs.Flat.{row_of_numbers, numbers_of, is_unit_row}
pub use Rattle.row_laws.specs.Short.{IsShortRow, IsShort}
pub use Rattle.row_laws.proofs.Contents.{content-one}
pub use Rattle.pip_model.specs.Numbers.{fits}
pub use Rattle.pip_model.specs.Forms.{entry, scale, width}
pub use Rattle.row_laws.proofs.ShortRows.{short_eliminated, widened_short}
pub use Rattle.row_laws.proofs.Substituting.{eliminated_none, checked_sides}
pub use Rattle.row_laws.proofs.Unchanged.{all_fit-append, eliminated_listed_one, eliminated_listed-none, any_zero, by_one, once}
pub use Rattle.row_laws.proofs.RowLaws.{count_map, widened_is_row, widened_content}
pub use Rattle.row_laws.specs.Steps.{IsMadeReduced}
pub use Rattle.row_laws.proofs.Stepping.{elimination, pivot_row}
pub use Rattle.tableau_row.specs.Views.{row_of}
pub use Rattle.pip_model.proofs.Forms.{length-count}
pub use Rattle.pip_model.specs.Cuts.{rounded, rounded_listed}
pub use Rattle.tableau.specs.KeptRows.{KeptRows, IsOver, IsSpare, AreLentOf, AreNext, AreSides, IsPivot, turned, turned_listed, with_more, with_rows, IsSteady, SameShape, HasRoom}
pub use Rattle.tableau.specs.Places.{IsSolvable, AreLent, lent_row, lent_rows, row_kept, IsPlace, IsPlainRow, IsFlat, AreKept, row_length, rows_kept, unit_run, kept_short, IsKnown, IsPlain, flat_numbers, IsUnsealed}
pub use Rattle.tableau.specs.declared.kept.Lent.{Lent}
pub use Rattle.tableau.specs.declared.kept.Kept.{Kept}
pub use Rattle.tableau.specs.declared.kept.RowPlace.{RowPlace}
pub use Rattle.std.proofs.Math.Nat.{add-mul, mul-le-mul_right}
pub use Rattle.row_laws.proofs.UnitRows.{unit_parts, unit_is}
pub use Rattle.row_laws.proofs.Numbers.{row_again, numbers_again}
pub use Rattle.std.proofs.lemmas.Int.{ints}
pub use Rattle.tableau_row.specs.Checks.{Fits}
pub use Rattle.row_laws.proofs.Solved.{unit_short}
pub use Rattle.row_laws.proofs.UnitFits.{unit_fits}
pub use Rattle.std.proofs.lemmas.Simd.{map-map}

-- The words of other modules that the proofs of this crate cite, passed on from one place. Declares nothing.
pub use Rattle.std.proofs.Common.{◌≡◌, ◌∙◌, refl, ap, sym, ℕ, zero, suc, ◌+◌, ◌-◌, ◌<◌, ◌≤◌, ℤ, arith, ◌⊎◌, inl, inr, Bool, true, false, Some, None, List, [], ◌∷◌, ◌++◌, length, length-append, ◌^◌, pos, unsigned_abs, get_or, take, negsuc, ◌≤ℤ◌, ◌<ℤ◌, drop, map, length-drop, subst, ◌*◌, Option, is_some, append-nil, append_assoc, All, rules, to_z, of_z, below_more}
pub use Rattle.std.specs.Prelude.{if◌then◌else◌, ◌&&◌, IfSome, Ok, Err, IfNone, IfOk, IfErr, Result}
pub use Rattle.std.proofs.lemmas.Bool.{cases_lt}
pub use Rattle.std.proofs.lemmas.List.{get_or_append_left, get_or-append-add, get_or-take, get_or-drop, length-take-le, map-append, take_at, drop_at, take-append-le, take_all, take-map, drop-map, drop_all, drop-append-le, get_or_default}
pub use Rattle.pip_model.specs.Rows.{Row, row_at, form_row, divided, eliminated, pivot, pivot_listed, entering, entering_of, entering_listed, candidates, first_fraction, fraction_from}
pub use Rattle.point_turns.specs.Turns.{negative_from, node_of, counted_cut}
pub use Rattle.scaled_laws.specs.Tables.{ScaledTable, with_row}
pub use Rattle.lane_run.specs.Below.{is_not_below, AreNotBelow, IsFirstRowBelow, made_rows, value_of, IsReadBy}
pub use Rattle.form_laws.specs.Bounds.{norm, AllShort}
pub use Rattle.lane_rows.proofs.Numbers.{numbers_long, constants_are}
pub use Rattle.lane_run.specs.Within.{IsWithin, AreWithin}
pub use Rattle.lane_run.specs.Runs.{forms_of, IsModest, AreModest, run_rows, IsRowBelow}
pub use Rattle.std.proofs.lemmas.Int.{ints}
pub use Rattle.pip_model.specs.Numbers.{is_nonneg}
pub use Rattle.pip_model.specs.Forms.{entry, constant}
pub use Rattle.form_laws.specs.ByForm.{combination, by_form, place, made, Kept, Form, Whole, rows_by, turned, IsWide, AllWide, IsOver, MadeBy}
pub use Rattle.form_laws.proofs.Invariant.{wide_by_form, row_wide, pivot_made}
pub use Rattle.scaled_laws.specs.Scaled.{row_over, AreScaled}
pub use Rattle.scaled_laws.specs.Kept.{kept_of}
pub use Rattle.lane_rows.specs.Laned.{AreUnused}
pub use Rattle.std.proofs.lemmas.Nat.{mul-le}
pub use Rattle.pip_model.specs.Run.{Work, Outcome, Done, Refused, Refusal, Again, go_on, give, count_pivot, turn, point_setting, count_cut, left, numbers_of}
pub use Rattle.pip_model.proofs.Fuel.{again_run, refused_run_from, falls-constant_class, again_less}
pub use Rattle.point_turns.specs.Points.{finds_point, IsTurnOf}
pub use Rattle.short_run.proofs.QuestionTurns.{finds_no_column, pivot_refused, finds_whole, cut_goes_on, cut_refuses}
pub use Rattle.lane_run.specs.Pivots.{row_of, IsNarrowTable, IsEntering, IsPivoted}
pub use Rattle.pip_model.specs.Cuts.{constant_cut}
pub use Rattle.std.specs.Int.{w32}
pub use Rattle.std.proofs.lemmas.Grind.{common_steps}
pub use Rattle.pip_problem.specs.Faults.{run_fault}
pub use Rattle.pip_model.proofs.Tests.{is_nonneg_is}
pub use Rattle.short_run.proofs.FurtherRows.{row_at-front, IsStep, negative-front, turn-alone}

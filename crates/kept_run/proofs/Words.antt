-- The words of other modules that the proofs of this crate cite, passed on from one place. Declares nothing.
pub use Rattle.std.proofs.Common.{◌≡◌, refl, ap, sym, ◌∙◌, ℕ, zero, suc, ◌<◌, ◌≤◌, ℤ, Bool, true, false, Option, Some, None, List, [], ◌∷◌, length, map, take, is_some, arith, length-append, subst, ◌+◌, ◌++◌, get_or, ◌-◌, is_none, pos, drop, append-nil, append_assoc, rules}
pub use Rattle.std.specs.Prelude.{IfSome, Result, flat_map, if◌then◌else◌, IsTrue, ◌&&◌}
pub use Rattle.std.proofs.lemmas.List.{length-map, get_or-append_right, drop_more, map-append, drop_all, take_more, take_at, get_or_at}
pub use Rattle.std.proofs.lemmas.Grind.{flat_map-append, get_or_default_zero, common_steps}
pub use Rattle.pip_model.specs.Forms.{constant, widen_to}
pub use Rattle.pip_model.specs.Rows.{Row, row_at, pivot, eliminated, eliminated_listed, form_row, candidates, first_fraction, unit_row, other_rows, entering, entering_listed}
pub use Rattle.pip_model.specs.Run.{Work, Outcome, Done, Refused, Refusal, Again, go_on, give, turn, run_from, numbers_of, point, point_run, point_setting, listed, count_pivot, Node, Overflow, ◌>>◌, Counted}
pub use Rattle.pip_model.specs.Agreement.{AgreesCounted}
pub use Rattle.pip_model.proofs.Fuel.{again_run, refused_run_from, falls-constant_class}
pub use Rattle.pip_problem.specs.Faults.{run_fault}
pub use Rattle.pip_model.specs.Refuting.{Trace, refute_from, first_trace}
pub use Rattle.refutation_laws.proofs.RefuteSteps.{next_trace, refute-again, refute-refused}
pub use Rattle.pip_model.specs.Numbers.{is_nonneg}
pub use Rattle.pip_model.proofs.Tests.{both}
pub use Rattle.pip_model.specs.Contexts.{IsContext}
pub use Rattle.pip_problem.specs.Counts.{IsCountedRun, HasCounted}
pub use Rattle.row_laws.specs.Tableaus.{TableauRows}
pub use Rattle.pip_model.specs.Listed.{all_fit}
pub use Rattle.run_laws.proofs.RowsAt.{length_pivot}
pub use Rattle.pip_problem.proofs.Counting.{counted_on}
pub use Rattle.short_run.specs.Turns.{node_of, negative_from}
pub use Rattle.short_run.specs.Points.{form_rows, first_rows, finds_point, is_end, has_point, EndsWith}
pub use Rattle.kept_run.specs.Remembered.{turned, replayed, traced_point, RetracesTo, asked, IsReplay, IsRemembered, IsFormed, IsTurned, IsStopped, IsPivotBehind}
pub use Rattle.point_turns.specs.Traces.{exchanged, exchanges, IsClosing}
pub use Rattle.kept_run.specs.declared.remembered.Remembered.{Remembered}
pub use Rattle.short_run.specs.Stops.{stop_fault}
pub use Rattle.short_run.proofs.FurtherRows.{IsStep, negative-front, entering-front, turn-behind, all_fit-append}
pub use Rattle.short_run.proofs.Ending.{none_of, none_enters, finds_none, only, ends_above, below_behind}

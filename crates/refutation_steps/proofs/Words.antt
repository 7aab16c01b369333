-- The words of other modules that the proofs of this crate cite, passed on from one place. Declares nothing.
pub use Rattle.std.proofs.Common.{◌≡◌, refl, ap, sym, ◌∙◌, ℕ, zero, suc, ◌-◌, ◌<◌, ◌≤◌, ℤ, Bool, true, false, Option, Some, None, List, [], ◌∷◌, length, take, arith, length-append, ◌+◌, ◌++◌, pos, negsuc, drop, rules, ap₂, get_or, subst, Result, Err, to_z, of_z, append-nil}
pub use Rattle.std.specs.Prelude.{Ok, slice_index_or, if◌then◌else◌, ◌≤ℤ◌, ◌<ℤ◌, neg_ℤ, map, IfErr, IfSome, ◌==◌}
pub use Rattle.std.proofs.lemmas.List.{length-map, drop_more, drop_all, take-append-le, get_or_append_left, get_or-append_right, get_or_read}
pub use Rattle.std.proofs.lemmas.Int.{ints, to_z-of_z}
pub use Rattle.std.proofs.lemmas.List.Elements.{All-get_or}
pub use Rattle.pip_model.specs.Forms.{constant, entry, widen_to, negate}
pub use Rattle.pip_model.specs.Tree.{Bottom}
pub use Rattle.pip_model.specs.Rows.{Row, start, row_at, form_row, count_from, candidates}
pub use Rattle.point_turns.specs.Points.{form_rows}
pub use Rattle.point_turns.specs.Turns.{negative_from}
pub use Rattle.pip_model.specs.Run.{Work, Outcome, Done, Refusal, Turn, Again, Closed, left, turn, point_setting, Counted, Refused, point}
pub use Rattle.pip_model.proofs.Forms.{length-count, entry-negate}
pub use Rattle.pip_model.proofs.Fuel.{again_less, falls-constant_class}
pub use Rattle.pip_problem.specs.Faults.{run_fault}
pub use Rattle.pip_model.specs.Refuting.{Trace, refute_from, with_step, last_step, refute, positive_terms, indices, traced, refute_by, first_trace}
pub use Rattle.refutation_laws.proofs.RefuteSteps.{next_trace, refute-again, refute-closed}
pub use Rattle.pip_model.specs.Numbers.{is_positive, is_nonneg}
pub use Rattle.pip_model.specs.Contexts.{IsNarrow}
pub use Rattle.std.specs.List.{AllByRecursion}
pub use Rattle.pip_model.specs.Certificate.{Refutation}
pub use Rattle.pip_problem.specs.Counts.{IsCountedRun, HasCounted}
pub use Rattle.pip_model.specs.Cuts.{constant_cut}
pub use Rattle.point_run.specs.Tableaus.{TableauRows}
pub use Rattle.run_laws.proofs.RowsAt.{length_slice_set}
pub use Rattle.affine_forms.specs.Checks.{Fits}
pub use Rattle.pip_problem.proofs.Counting.{counted_on, counted_none}
pub use Rattle.point_run.specs.Turns.{node_of, HasSameScope}
pub use Rattle.point_turns.specs.Traces.{exchanged, with_cut, IsTraced}
pub use Rattle.point_run.specs.TurnAt.{IsTurnAt}
pub use Rattle.point_run.proofs.Leaving.{scope_none, scope_on, run_same}
pub use Rattle.std.specs.Int.{w128}

-- The words of other modules that the proofs of this crate cite, passed on from one place. Declares nothing.
pub use Rattle.std.proofs.Common.{◌≡◌, refl, ap, sym, ◌∙◌, ℕ, zero, suc, ◌<◌, ◌≤◌, ℤ, true, false, Option, Some, List, [], ◌∷◌, length, map, take, arith, length-append, subst, ◌+◌, ◌++◌, get_or, drop, ap₂, All, rules, Result, Ok, Err, to_z, of_z, pos, append_assoc}
pub use Rattle.std.specs.Prelude.{IfSome, OnOk, nat_eq}
pub use Rattle.std.proofs.lemmas.List.{length-map, map-append, length-take, length-take-le, take-take, take-append-drop}
pub use Rattle.std.proofs.lemmas.Grind.{common_steps}
pub use Rattle.std.proofs.lemmas.List.Elements.{All-head, All-tail, All-push}
pub use Rattle.pip_model.specs.Forms.{constant, entry, width, widen_to}
pub use Rattle.pip_model.specs.Tree.{Bottom}
pub use Rattle.pip_model.proofs.Division.{form-parts}
pub use Rattle.pip_model.specs.Rows.{Row, row_at, form_row}
pub use Rattle.pip_model.specs.Run.{Work, Outcome, Done, Refused, Refusal, go_on}
pub use Rattle.pip_model.specs.Refuting.{indices, Trace, refute_from, refute, first_trace, with_step, last_step}
pub use Rattle.refutation_laws.proofs.RefuteSteps.{refute-closed}
pub use Rattle.pip_model.specs.Certificate.{Refutation}
pub use Rattle.pip_model.specs.Contexts.{IsContext}
pub use Rattle.pip_model.specs.Made.{narrow_to}
pub use Rattle.run_laws.proofs.RowsAt.{length_slice_set}
pub use Rattle.pip_problem.proofs.Counting.{counted_on, counted_none}
pub use Rattle.point_run.specs.Turns.{node_of}
pub use Rattle.point_run.specs.Points.{form_rows, first_rows, is_end}
pub use Rattle.kept_run.specs.Remembered.{replayed, IsRemembered}
pub use Rattle.kept_run.specs.Traces.{exchanged, exchanges, IsTraced, IsClosing}
pub use Rattle.kept_run.specs.declared.remembered.Remembered.{Remembered}
pub use Rattle.refuter.specs.Kept.{KeptRun, IsRunOf, KeepsNone, AreFirst, AreFirstWithin, AreFirstOver}
pub use Rattle.short_run.specs.Stops.{stop_fault}
pub use Rattle.point_run.proofs.Leaving.{passes_refusal, run_same}
pub use Rattle.affine_forms.specs.Checks.{Fits}
pub use Rattle.refuter.specs.Places.{indices_of}

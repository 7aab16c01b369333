-- The words of other modules that the proofs of this crate cite, passed on from one place. Declares nothing.
pub use Rattle.std.proofs.Common.{◌≡◌, refl, ap, sym, ◌∙◌, ℕ, zero, suc, ◌≤◌, ℤ, Bool, true, false, Option, Some, None, List, [], ◌∷◌, length, map, take, arith, subst, ◌+◌, ◌++◌, ◌-◌, is_none, pos, drop, ◌&&◌, replicate, rules, length-append}
pub use Rattle.std.specs.Prelude.{IfSome, Result, Ok, Err, if◌then◌else◌, IfOk, IfErr, OnOk, IsTrue, is_ok, filter}
pub use Rattle.std.proofs.lemmas.List.{length-map, take-append-le, length-take-le, take-take, take_all, take_rest, take-append-drop}
pub use Rattle.std.specs.List.{list_all}
pub use Rattle.pip_model.specs.Forms.{constant, entry, widen_to, coefficients, width}
pub use Rattle.pip_model.specs.Rows.{Row, row_at, form_row, count_from, unit_row, fraction_from}
pub use Rattle.pip_model.specs.Run.{Work, Done, Refused, point}
pub use Rattle.pip_model.specs.Agreement.{AgreesCounted}
pub use Rattle.pip_model.proofs.Forms.{length-count}
pub use Rattle.pip_problem.specs.Faults.{run_fault}
pub use Rattle.pip_model.specs.Numbers.{is_nonneg, is_positive}
pub use Rattle.pip_model.specs.Contexts.{IsContext, PointTells, IsPointRefusal}
pub use Rattle.kept_run.specs.Turns.{negative_from}
pub use Rattle.kept_run.specs.Points.{finds_point, first_rows, has_point}
pub use Rattle.kept_run.specs.Remembered.{IsRemembered}
pub use Rattle.context_points.specs.Known.{IsKnown}
pub use Rattle.kept_run.specs.declared.remembered.Remembered.{Remembered}
pub use Rattle.context_points.specs.Scoped.{ScopedForms, IsKeptContext}
pub use Rattle.kept_run.proofs.OneFormMore.{alone_is, known_tells, has_point_is}

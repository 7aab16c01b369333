-- The words of other modules that the proofs of this crate cite, passed on from one place. Declares nothing.
pub use Rattle.std.proofs.Common.{◌≡◌, ◌∙◌, refl, ap, ap₂, sym, subst, ℕ, zero, suc, ◌-◌, ◌^◌, ◌<◌, ◌≤◌, ℤ, pos, ◌-ℤ◌, unsigned_abs, arith, true, false, Option, Some, None, List, [], ◌∷◌, ◌++◌, length, replicate, neg_ℤ, map, append-nil, ◌+◌, take, drop, append_assoc, length-append, ◌%◌, negsuc, ◌≤ℤ◌, ◌<ℤ◌, get_or, length-drop, set, Bool, rules, to_z, of_z, ◌*◌}
pub use Rattle.std.proofs.Math.Nat.{div-le_self}
pub use Rattle.std.proofs.Math.Seq.{set-append_seam, take-append_seam, take-suc}
pub use Rattle.std.proofs.lemmas.Bool.{lt-ltb}
pub use Rattle.std.proofs.lemmas.Grind.{common_steps}
pub use Rattle.std.proofs.lemmas.Int.{ints, fits_signed_from_abs, to_z-of_z}
pub use Rattle.std.proofs.lemmas.List.{map-append, length-map, take_all, drop_all, take-append-drop, length-take-le, take-take, take-append-le, take-map, get_or-map, get_or-drop, take_more, take-replicate, get_or_at}
pub use Rattle.std.proofs.lemmas.List.Elements.{All-append, All-cons, All-from_recursion, All-nil, All-take}
pub use Rattle.std.specs.Int.{w32, w64}
pub use Rattle.std.specs.List.{AllByRecursion}
pub use Rattle.std.specs.Prelude.{FitsSigned, slice_set, is_some, IfSome, nat_lt, IsTrue, if◌then◌else◌}
pub use Rattle.pip_model.proofs.Division.{form-parts}
pub use Rattle.pip_model.proofs.Fitting.{fit_cons, fits-le}
pub use Rattle.pip_model.proofs.Forms.{length-opposite, length-count, entry-negate}
pub use Rattle.pip_model.proofs.Fuel.{refused_run_from, falls-constant_class}
pub use Rattle.pip_model.proofs.Gcd.{euclid_below, gcd_one, gcd_zero}
pub use Rattle.pip_model.specs.Agreement.{AgreesCounted}
pub use Rattle.pip_model.specs.Contexts.{IsContext, IsNarrow}
pub use Rattle.pip_model.specs.Forms.{width, entry, coefficients, constant, negate, opposite, widen_to, floor_divided, tighten}
pub use Rattle.pip_model.specs.Listed.{all_fit, opposite_listed}
pub use Rattle.pip_model.specs.Numbers.{floor_div, euclid, gcd, gcd_of, is_nonneg}
pub use Rattle.pip_model.specs.Rows.{Row, start, unit_row, count_from, row_at, divided, form_row, first_fraction}
pub use Rattle.pip_model.specs.Run.{Work, Outcome, Done, Refused, Refusal, Plus, Minus, Unknown, go_on, give, point, class_below, class_above, class_by_points, Counted, count_pivot, run_from, numbers_of, point_run, point_setting, turn}
pub use Rattle.pip_model.specs.Tree.{Tree}
pub use Rattle.point_turns.specs.Points.{has_point, finds_point, first_rows}
pub use Rattle.lanes.specs.Narrow.{AreLanes}
pub use Rattle.lane_questions.specs.InLanes.{lanes_of, all_lanes, AreWithin, AreFirst, form_in, IsWithin}
pub use Rattle.lane_questions.specs.Kept.{LaneVertex, IsQuestion, IsKeptLanes, IsEndedLanes, counted_pivots}
pub use Rattle.pip_problem.specs.Counts.{HasRoomFor, counted_more, HasCounted}
pub use Rattle.lane_run.specs.Runs.{run_rows, forms_of, AreModest, IsRowBelow}
pub use Rattle.scaled_laws.specs.Tables.{ScaledTable, column_rows}
pub use Rattle.point_turns.specs.Turns.{negative_from, node_of}
pub use Rattle.lane_run.specs.Pivots.{IsPivoted, IsEntering}
pub use Rattle.lane_run.proofs.FrontPivot.{front_finds, below_further, rows_further, front_refused, front_closes}
pub use Rattle.form_laws.specs.ByForm.{Form, rows_by, AllForms, combination, by_form}
pub use Rattle.lane_questions.specs.Asking.{LaneState, IsAsking, IsBegun, IsMade, unkept}
pub use Rattle.scaled_laws.specs.Scaled.{row_over}
pub use Rattle.lane_questions.specs.Behind.{IsBehind}
pub use Rattle.form_laws.specs.Bounds.{norm}
pub use Rattle.lane_run.specs.Laned.{AreUnused}
pub use Rattle.lane_questions.specs.contracts.questions.LaneQuestions.{the_view}
pub use Rattle.pip_problem.proofs.Counting.{counted_on, counted_none}
pub use Rattle.lane_run.specs.Stops.{stop_fault}
pub use Rattle.affine_forms.proofs.Mapped.{mapped, mapped_step}
pub use Rattle.lane_run.proofs.Ending.{alone_is, below_behind}
pub use Rattle.pip_model.proofs.Tests.{is_nonneg_is}

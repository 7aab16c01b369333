-- The words of other modules that the proofs of this crate cite, passed on from one place. Declares nothing.
pub use Rattle.std.proofs.Common.{◌≡◌, refl, ap, sym, ◌∙◌, ℕ, zero, suc, ◌<◌, ◌≤◌, ℤ, Bool, true, false, Option, Some, None, List, [], ◌∷◌, length, map, take, is_some, arith, ◌+◌, ◌++◌, is_none, drop, append-nil, ◌&&◌, append_assoc}
pub use Rattle.std.specs.Prelude.{IfSome, flat_map, if◌then◌else◌, IsTrue, ◌||◌}
pub use Rattle.std.proofs.lemmas.List.{take-append-le, map-append, drop-append-le, get_or_append_left, length-map, set-append_left}
pub use Rattle.std.proofs.lemmas.Grind.{flat_map-append}
pub use Rattle.std.specs.List.{list_any}
pub use Rattle.pip_model.specs.Forms.{constant, entry, widen_to}
pub use Rattle.pip_model.specs.Tree.{Bottom, Tree}
pub use Rattle.pip_model.specs.Rows.{Row, start, row_at, pivot, eliminated, eliminated_listed, candidates, first_fraction, count_from, unit_row, other_rows, pivot_listed, entering, entering_listed, entering_of, entering_of_listed, fraction_from, form_row}
pub use Rattle.pip_model.specs.Run.{Work, Done, Refused, Refusal, Again, Closed, go_on, give, leaf, turn, numbers_of, point_setting, listed, count_pivot, Node, Setting, MinusAt, turn_by, last_turn, ◌>>◌, pivot_turn, Outcome, run_from}
pub use Rattle.pip_model.proofs.Fuel.{closed_run_from, falls-constant_class}
pub use Rattle.pip_model.specs.Numbers.{is_nonneg, is_positive, fits}
pub use Rattle.pip_model.proofs.Tests.{both}
pub use Rattle.pip_model.specs.Listed.{all_fit}
pub use Rattle.point_turns.specs.Turns.{node_of, negative_from, counted_cut}
pub use Rattle.point_turns.specs.Points.{finds_point, EndsWith, has_point, first_rows}
pub use Rattle.point_turns.proofs.Turning.{signs_of, turn_is, cut_again, cut_refused}
pub use Rattle.std.proofs.lemmas.List.Folds.{list_all-append}

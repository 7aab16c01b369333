-- The words of other modules that the proofs of this crate cite, passed on from one place. Declares nothing.
pub use Rattle.std.proofs.Common.{rules, ◌≡◌, refl, ap, sym, ◌∙◌, ℕ, zero, suc, ◌<◌, ◌≤◌, ℤ, Bool, true, false, Option, Some, None, List, [], ◌∷◌, length, is_some, arith, length-append, subst, ◌+◌, ◌++◌}
pub use Rattle.std.specs.Prelude.{IfSome, Result, Ok, Err, if◌then◌else◌}
pub use Rattle.std.proofs.lemmas.List.{length-map}
pub use Rattle.pip_model.specs.Forms.{constant, coefficients}
pub use Rattle.pip_model.specs.Tree.{Tree}
pub use Rattle.pip_model.specs.Rows.{Row, start, row_at, first_fraction, is_whole}
pub use Rattle.pip_model.specs.Run.{Work, Outcome, Done, Refused, Refusal, Turn, Again, Closed, go_on, give, left, turn, run_from, numbers_of, point, point_run, point_setting, Node, Setting, Signs, AllPlus, MinusAt, turn_by, last_turn, cut_turn, count_cut, Counted}
pub use Rattle.pip_model.specs.Agreement.{AgreesCounted}
pub use Rattle.pip_model.proofs.Forms.{length-count}
pub use Rattle.pip_model.proofs.Fuel.{again_less, again_run, closed_run_from, refused_run_from, falls-constant_class}
pub use Rattle.pip_model.specs.Numbers.{is_nonneg}
pub use Rattle.pip_problem.specs.Counts.{IsCountedRun, HasCounted}
pub use Rattle.pip_model.specs.Cuts.{constant_cut}
pub use Rattle.short_tableau.specs.Tableaus.{TableauRows}
pub use Rattle.pip_problem.proofs.Counting.{counted_on, counted_none}
pub use Rattle.point_turns.specs.Turns.{node_of, negative_from, counted_cut, HasSameScope}
pub use Rattle.point_turns.specs.Points.{finds_point, ended}
pub use Rattle.plain_laws.specs.Plain.{plain_setting}

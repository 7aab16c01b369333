-- The words of other modules that the proofs of this crate cite, passed on from one place. Declares nothing.
pub use Rattle.std.proofs.Common.{refl, ap, ◌∙◌, Bool, Option, Some, None, List, length, arith, ℕ, ◌+◌, true, false, [], ◌∷◌, ap₂, ℤ, slice_index_or, rules, pos, ◌≡◌}
pub use Rattle.std.specs.Prelude.{if◌then◌else◌, map, take, All}
pub use Rattle.pip_model.specs.Tree.{Component, reduced, Bottom}
pub use Rattle.pip_model.specs.Rows.{Row, form_row, row_at}
pub use Rattle.pip_model.specs.Run.{Work, Done, Again, Closed, left, turn, Signs, AllPlus, MinusAt, turn_by, row_component, leaf}
pub use Rattle.point_turns.specs.Turns.{node_of, negative_from}
pub use Rattle.point_turns.proofs.Leaving.{scope_on}
pub use Rattle.plain_laws.specs.Plain.{plain_setting}
pub use Rattle.quast.specs.Components.{IsComponent}
pub use Rattle.std.proofs.lemmas.Grind.{common_steps}
pub use Rattle.pip_model.specs.Forms.{constant}
pub use Rattle.point_turns.proofs.Pointing.{starts_run, run_goes_on, run_less, run_closed, run_refused, IsOneRun}

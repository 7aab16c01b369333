-- The words of other modules that the proofs of this crate cite, passed on from one place. Declares nothing.
pub use Rattle.std.proofs.Common.{◌≡◌, sym, ap, ◌∙◌, ℕ, ◌+◌, ◌++◌, ◌∷◌, [], map, take, List, ℤ, length, arith, refl, ◌-◌, ◌≤◌, Bool, ◌⊎◌, inl, inr, subst, Result, Ok, Err, Some, ◌<◌, Option, None, drop, zero, suc, pos, true, replicate, false, slice_range, get_or, length-drop, rules}
pub use Rattle.std.proofs.Math.Seq.{drop-append_seam}
pub use Rattle.std.proofs.lemmas.List.{take-append-le, drop_more, drop-append-le, get_or-map, map-append, length-map, take_all, map_more}
pub use Rattle.std.proofs.lemmas.List.Elements.{All-push, All-same, All-head, All-tail}
pub use Rattle.std.specs.Prelude.{IfSome, All, Contains, if◌then◌else◌, is_ok}
pub use Rattle.std.proofs.lemmas.Grind.{common_steps}
pub use Rattle.pip_model.specs.Forms.{opposite}
pub use Rattle.pip_model.specs.Rows.{row_at, Row, form_row}
pub use Rattle.pip_model.specs.Cuts.{rounding, residue_of}
pub use Rattle.pip_model.specs.Run.{Work, go_on, Outcome, Done, Refused, turn, class, Budget, Plus, Node, Setting, Class, scope, quotient_cut, known_cut, Refusal, Minus, Unknown, Signs, AllPlus, MinusAt, UnknownBy, keep, scan, scan_on, turn_by, row_component}
pub use Rattle.tableau.specs.Tableaus.{TableauRows}
pub use Rattle.new_parameters.specs.Scopes.{size}
pub use Rattle.quast.specs.Trees.{ScopedTree}
pub use Rattle.pip_problem.specs.declared.work.Counts.{Counts}
pub use Rattle.sign_split.specs.Scoped.{ScopedForms, IsKeptContext}
pub use Rattle.pip_model.specs.Agreement.{AgreesCounted}
pub use Rattle.pip_problem.specs.Faults.{run_fault}
pub use Rattle.sign_split.specs.Classes.{class_of}
pub use Rattle.run_laws.proofs.Scopes.{length-rounding, length-opposite}
pub use Rattle.quast.specs.Components.{IsComponent}
pub use Rattle.pip_problem.proofs.Counting.{counted_on, counted_none}
pub use Rattle.node_turn.specs.declared.path.Path.{Path}
pub use Rattle.node_turn.specs.Nodes.{node_of, setting_of}
pub use Rattle.node_turn.specs.Turns.{turn_of}
pub use Rattle.node_turn.specs.Known.{NonnegativeForm, IsKnownForm, AreKnown}
pub use Rattle.node_turn.specs.Signs.{scanned, IsCondition, signs_of}
pub use Rattle.node_turn.specs.declared.known.NonnegativePlace.{NonnegativePlace}

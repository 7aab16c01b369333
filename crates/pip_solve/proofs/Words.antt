-- The words of other modules that the proofs of this crate cite, passed on from one place. Declares nothing.
pub use Rattle.std.proofs.Common.{◌≡◌, sym, ap, ◌∙◌, ℕ, ◌+◌, ◌++◌, ◌∷◌, [], map, take, List, ℤ, length, arith, refl, ◌-◌, ◌≤◌, Bool, subst, Result, Ok, Err, Some, ◌<◌, Option, None, pos, true, ◌*◌, append_assoc, is_some, rules, All}
pub use Rattle.std.proofs.Math.Seq.{take-append_seam, get_or-append_seam}
pub use Rattle.std.proofs.lemmas.List.{append-nil, length-append, length-take-le, take-append-le, get_or-map, length-map}
pub use Rattle.std.proofs.lemmas.List.Elements.{All-from_recursion}
pub use Rattle.std.specs.Prelude.{IfOk, IfSome, max}
pub use Rattle.std.proofs.lemmas.Grind.{common_steps}
pub use Rattle.std.proofs.lemmas.Int.{to_z-of_z}
pub use Rattle.pip_model.specs.Forms.{opposite, tighten, widen}
pub use Rattle.pip_model.specs.Tree.{If, NewParm, Tree, nesting, Solved}
pub use Rattle.pip_model.specs.Rows.{row_at, widened, Row, form_row, started, start}
pub use Rattle.pip_model.specs.Cuts.{Quotient, lower_bound, upper_bound, parametric_cut}
pub use Rattle.pip_model.specs.Run.{Work, ◌>>=◌, go_on, give, run_from, Outcome, Done, Refused, Counted, Turn, Closed, Again, Below, Split, turn, class, Budget, IsBudget, answered, solve, Node, Setting, Refusal, left, point, answer, answer_from, setting, first_node}
pub use Rattle.tableau.specs.Tableaus.{TableauRows}
pub use Rattle.node_turn.specs.ContextMark.{ContextMark}
pub use Rattle.new_parameters.specs.Scopes.{Scope, size, quotient_at}
pub use Rattle.quast.specs.Trees.{ScopedTree}
pub use Rattle.pip_model.proofs.Fuel.{falls-class, closed_run_from, again_run, below_run, split_run, AtMost, Progress, falls-turn, refused_run_from}
pub use Rattle.pip_model.specs.Problem.{Problem}
pub use Rattle.pip_model.specs.WellFormed.{IsProblem, IsWellFormedAnswer, IsRow}
pub use Rattle.pip_model.specs.Agreement.{Agrees, AgreesCounted}
pub use Rattle.pip_problem.specs.Faults.{run_fault}
pub use Rattle.pip_model.specs.Limits.{most_nesting}
pub use Rattle.node_turn.specs.Points.{has_point}
pub use Rattle.run_laws.proofs.Scopes.{length-bounds}
pub use Rattle.node_turn.specs.declared.path.Path.{Path}
pub use Rattle.pip_solve.specs.declared.pending.Frame.{Frame}
pub use Rattle.node_turn.specs.Nodes.{node_of, setting_of, IsBelow, IsBack, IsKept, IsNode}
pub use Rattle.node_turn.specs.Turns.{under, below, after, turn_of, IsNewParameter, TurnIs, tree_in}
pub use Rattle.pip_solve.specs.Frames.{node_run, gone_back, path_under, finished, whole_run, turned_run, AreMarks, Waits, IsDue, HasRoom, IsClosing, IsNextNode, dues, IsRunning, IsTurned, weight}
pub use Rattle.node_turn.specs.Known.{AreKnown}
pub use Rattle.node_turn.specs.Signs.{IsCondition}
pub use Rattle.pip_solve.specs.Waiting.{Waiting}

-- The words of other modules that the proofs of this crate cite, passed on from one place. Declares nothing.
pub use Rattle.std.proofs.Common.{◌≡◌, refl, arith, ℕ, ◌-◌, ◌^◌, ◌≤◌, List, [], ◌∷◌, Option, Some, None, Bool, true, false, ◌&&◌, ◌==◌, not, nat_le, length, ◌≢◌, ◌⊎◌, inl, inr, sym, subst, ◌∙◌, ap, ◌<◌, map, string_bytes}
pub use Rattle.std.proofs.lemmas.Result.{err_from_is_err_and}
pub use Rattle.std.specs.Prelude.{IfSome, MatchBool, if◌then◌else◌, codes, option_map, Result, Ok, Err}
pub use Rattle.std.specs.List.{list_all, concat}
pub use Rattle.std.specs.Io.KnownBytes.{Appends, Keeps}
pub use Rattle.pip_model.specs.Limits.{most_params, most_pivots, most_cuts, most_splits, most_nesting, most_input_bytes}
pub use Rattle.pip_model.specs.Run.{Budget, IsBudget, standard_budget, Refusal, Overflow}
pub use Rattle.program_model.specs.Commands.{Command, Eval, Simplify, Pieces, Restrict, Same, Least, SolveOptions, Solve, Trial, way, item_text}
pub use Rattle.program_model.specs.Output.{MayBeAsked, IsOutput, IsFirstOutput}
pub use Rattle.item_writing.specs.Outputs.{IsWithin, IsRead, WritesOutput, bytes_read, IsTooLong}
pub use Rattle.program_model.specs.Endings.{Ending, finished, fault_ending, refusal_ending, tool_ending, notes_of, memory_ending}
pub use Rattle.headline.proofs.OutputRight.{output-right, first_output-right}
pub use Rattle.headline.proofs.OutputUnique.{output-unique}
pub use Rattle.item_writing.specs.Endings.{told, or_memory, ending_of, IsOfItem}
pub use Rattle.item_writing.specs.Items.{Gained, GainedFront, WritesTill}
pub use Rattle.item_writing.specs.ByProblem.{AreEnded, AreBefore, AreAll, ReadsWhole, WritesTillEnd, WritesByProblem, WritesOf}
pub use Rattle.pip_cli.specs.Ends.{AreFirst, AreFirstEnded, AreFirstBefore, IsOfItems, EndsByProblem, StopsAtLimit, HasEndedByProblem, EndsAs, AnswersRight, Completes, IsShort, IsAfterInput, ending_by, GainsLine, IsNoted, EndsWith, EndsAtLimit, HasEnded}
pub use Rattle.pip_cli.specs.Runs.{IsWordsEnding, WhereTold}

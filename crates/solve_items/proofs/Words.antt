-- The words of other modules that the proofs of this crate cite, passed on from one place. Declares nothing.
pub use Rattle.std.proofs.Common.{◌≡◌, refl, false, sym, subst, ◌∙◌, ap, ℕ, List, [], ◌∷◌, ◌++◌, Option, Some, None, ◌+◌, ◌<◌, inr, arith, Bool, true, ◌≤◌, inl, length, length-drop, drop, option_map, ◌-◌, length-append, take, rules}
pub use Rattle.std.specs.Prelude.{Err, IfSome, Ok, Result, if◌then◌else◌, ◌⊎◌, ◌↔◌, IsErrOf}
pub use Rattle.std.proofs.KnownBytes.{Appends-nil, Appends-trans}
pub use Rattle.std.proofs.lemmas.List.{drop-drop, drop-take}
pub use Rattle.std.specs.List.{concat, list_all}
pub use Rattle.std.specs.Io.KnownBytes.{Appends}
pub use Rattle.std.proofs.lemmas.Result.{err_from_is_err_and}
pub use Rattle.program_model.specs.ItemTexts.{certified_answer_text, certified_outcome, certified_text}
pub use Rattle.pip_model.specs.TreeText.{spell}
pub use Rattle.item_writing.specs.Endings.{told, IsOfItem}
pub use Rattle.pip_outside.specs.Bytes.{AppendsFront}
pub use Rattle.program_model.specs.Endings.{Ending, finished, fault_ending}
pub use Rattle.program_model.specs.Items.{ItemAt, Ends, FirstItemsTo, IsItself, NoEnd, Gives, or_ending, text_with, text_of_item}
pub use Rattle.headline.proofs.FirstItems.{first_items-end}
pub use Rattle.pip_outside.specs.Calls.{Takes, AsksOn, CallsWithin}
pub use Rattle.pip_outside.proofs.Calls.{takes-none, takes-then, asks-none, asks-then}
pub use Rattle.pip_outside.specs.Windows.{HeldBytes}
pub use Rattle.program_model.specs.Commands.{SolveOptions, Solve, text_of, item_text}
pub use Rattle.pip_stream.specs.Asked.{AsksInTurns, AsksWhileOpen, CallsFor, is_found}
pub use Rattle.pip_stream.specs.Windows.{taken_by, bytes_from}
pub use Rattle.pip_stream.proofs.Dropping.{if-map, if-some}
pub use Rattle.pip_model.specs.Problem.{Problem}
pub use Rattle.pip_model.specs.Reading.{Fault, ◌>>◌}
pub use Rattle.pip_model.specs.Moved.{moved, is_closed}
pub use Rattle.pip_model.specs.NativeText.{read_native}
pub use Rattle.text_laws.proofs.LocalProblems.{read_native-ends, read_native-moved}
pub use Rattle.pip_reader.specs.Groups.{first_group_end, group_behind}
pub use Rattle.pip_model.specs.Certificate.{Certificate, spell_certificate}
pub use Rattle.pip_model.specs.Tree.{Answer}
pub use Rattle.pip_model.specs.Limits.{most_input_bytes}
pub use Rattle.program_model.specs.ItemKinds.{matrix_item, problem_item}
pub use Rattle.pip_stream.specs.Next.{ReadsNext, ReadsNone, IsSpared, StaysOpen, HoldsRest, FindsNext, IsReady}
pub use Rattle.pip_outside.proofs.Faults.{counts-none, counts-as}
pub use Rattle.pip_words.specs.Words.{options_of}
pub use Rattle.item_writing.specs.Items.{Gained, GainedFront}
pub use Rattle.item_writing.specs.ByProblem.{StopsAtRefused, AreEnded, AreBefore, AreAll, WritesTillEnd, WritesByProblem, FailsInTime, CallsBy}
pub use Rattle.item_writing.specs.Outputs.{EndsByFaults}
pub use Rattle.solve_items.specs.Answered.{Answers, AnswersNext, IsUnread, IsUnanswered}
pub use Rattle.item_writing.proofs.Faults.{err-same, own-not, counts-failed, faults-by, err-not_ok}

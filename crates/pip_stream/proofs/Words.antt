-- The words of other modules that the proofs of this crate cite, passed on from one place. Declares nothing.
pub use Rattle.std.proofs.Common.{◌≡◌, refl, sym, ap, ◌∙◌, ℕ, suc, ◌+◌, ◌-◌, ◌<◌, ◌≤◌, arith, List, [], ◌∷◌, ◌++◌, append_assoc, length, Bool, true, false, length-append, length-take, take, drop, subst, inl, inr, length-drop, zero}
pub use Rattle.std.proofs.Math.Seq.{take-append-add, drop-append-add, take-length, take-add}
pub use Rattle.std.proofs.lemmas.List.{take-append-drop, take_at, drop_at, drop_all, take-append-le, drop-append-le, drop-drop, append-nil, nil_from_length}
pub use Rattle.std.proofs.lemmas.List.Folds.{list_all-append}
pub use Rattle.std.specs.Prelude.{Option, Some, None, ◌⊎◌, IfSome, Result, Ok, Err, IfOk}
pub use Rattle.std.specs.List.{list_all}
pub use Rattle.std.proofs.lemmas.Result.{err_from_is_err_and}
pub use Rattle.pip_model.specs.Moved.{is_closed, moved, Ended}
pub use Rattle.pip_model.specs.Reading.{closing, next_open, Fault, Syntax, Wide, item_at}
pub use Rattle.text_laws.proofs.Items.{next_open-append, next_open-closed, next_open-first, next_open-none}
pub use Rattle.pip_reader.specs.Groups.{group_behind, first_group_end, place_behind, IsScanned}
pub use Rattle.pip_outside.specs.Windows.{HeldBytes}
pub use Rattle.pip_model.specs.Problem.{Problem}
pub use Rattle.pip_model.specs.NativeText.{problem_at, read_native}
pub use Rattle.pip_problem.specs.Faults.{read_fault}
pub use Rattle.pip_problem.specs.declared.refusal.ReadRefusal.{ReadRefusal}
pub use Rattle.text_laws.proofs.LocalProblems.{read_native-alone, read_native-moved, read_native-ends}
pub use Rattle.text_laws.proofs.ReadProblems.{read_native-none}
pub use Rattle.pip_model.specs.Limits.{most_input_bytes}
pub use Rattle.pip_outside.proofs.Faults.{counts-none, counts-refused}
pub use Rattle.pip_stream.specs.Open.{DropsClosed, IsOpened}
pub use Rattle.pip_stream.specs.Asked.{AsksWhileOpen, AsksInTurns, CallsFor, Seeks, TakesMore, is_ended, is_there}
pub use Rattle.pip_stream.specs.Ended.{IsRead, IsItem, HoldsItem, IsEnded}
pub use Rattle.pip_stream.specs.declared.refusal.NextRefusal.{NextRefusal}
pub use Rattle.pip_stream.specs.Windows.{taken_by, bytes_from, Skips, Drops, Grows, IsMore, HoldsPiece, TakesTo}
pub use Rattle.pip_stream.specs.Next.{ReadsNext, ReadsNone, IsSpared, RefusesNext, StaysOpen, FindsNext, LeavesWindow}

use Rattle.pip_words.proofs.Words.{◌≡◌, drop, fold, app_of, with_entry}
use Rattle.pip_words.proofs.arguments.with_commands.Given as goal

abbrev pub invariant-loop-entry : goal.invariant-loop-entry
invariant-loop-entry l =
    fold with_entry (app_of l.program) (drop l.entry-index l.entries) ≡ fold with_entry (app_of l.initial.program) l.entries

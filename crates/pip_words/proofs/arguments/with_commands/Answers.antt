use Rattle.pip_words.proofs.Words.{◌∙◌, ap, App, app_of, with_entry}
use Rattle.pip_words.proofs.Folds.{fold-step}
use Rattle.pip_words.proofs.arguments.with_commands.Goals as goal

pub loop-entry-preserved : goal.loop-entry-preserved
loop-entry-preserved c =
    let added = c.in_ok-program.ensures.shape c.in_ok-made_command.ensures.local in
    rw (added, ap (λ (a : App). a.top) c.in_ok-made_command.ensures.made) (fold-step with_entry (app_of c.loop-entry.program) c.args.entries.now
    c.loop-entry.entry-index _ c.loop-entry-test.true ∙ c.loop-entry.invariant)

use Rattle.pip_words.proofs.Words.{◌∙◌, sym, ap₂, Bool, fold, app_of, with_argument, ◌||◌}
use Rattle.std.proofs.lemmas.List.{at_drop_all}
use Rattle.pip_words.proofs.Folds.{fold-step}
use Rattle.pip_words.proofs.arguments.made_command.Goals as goal

pub loop-added-preserved : goal.loop-added-preserved
loop-added-preserved c =
    let added = c.in_ok-command.ensures.shape c.made_argument.ensures.local in
    record {
      app = rw (added, c.made_argument.ensures.rule) (fold-step with_argument (app_of c.loop-added.command) c.args.entry.arguments.now
          c.loop-added.added-index _ c.loop-added-test.true ∙ c.loop-added.invariant.app);
      local = c.in_ok-command.ensures.globals ∙ ap₂ (λ (s t : Bool). s || t) c.loop-added.invariant.local c.made_argument.ensures.local;
    }

pub returns-clause-made : goal.returns-clause-made
returns-clause-made c =
    sym (at_drop_all (fold with_argument (app_of c.loop-added.command)) c.args.entry.arguments.now c.loop-added.added-index c.loop-added-test.false)
    ∙ c.loop-added.invariant.app

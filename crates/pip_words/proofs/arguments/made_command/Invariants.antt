use Rattle.pip_words.proofs.Words.{◌≡◌, drop, fold, false, app_of, new_app, with_argument}
use Rattle.clap.specs.declared.builder.Command.TheViews.{out-Command}
use Rattle.pip_words.proofs.arguments.made_command.Given as goal

abbrev pub invariant-loop-added : goal.invariant-loop-added
invariant-loop-added l = record {
  app : fold with_argument (app_of l.command) (drop l.added-index l.entry.arguments.now)
      ≡ fold with_argument (new_app l.entry.name.now) l.entry.arguments.now;
  local : (out-Command l.command).has_globals ≡ false;
}

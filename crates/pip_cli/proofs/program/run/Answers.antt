use Rattle.pip_cli.proofs.Words.{◌≡◌, refl, sym, ◌∙◌, ◌-◌, arith, Some, None, err_from_is_err_and}
use Rattle.item_writing.proofs.Turns.{asks-start}
use Rattle.item_writing.proofs.Calls.{none-taken}
use Rattle.item_writing.proofs.Faults.{err-not_ok}
use Rattle.pip_cli.proofs.Unasked.{words-usage, words-ending, words-not_read, words-faults, words-spared, words-asked, words-in_time, words-output}
use Rattle.pip_cli.proofs.program.run.Goals as goal

-- ---- the words give no command, or there is no memory for them

pub returns-in_err-command : goal.returns-in_err-command
returns-in_err-command g c =
    let p = err_from_is_err_and c.from_residual.result c.from_residual.ensures.1 in
    record {
      usage = rw (p.1, p.2) (words-usage _ c.in_err-command.ensures.usage);
      refused = rw (p.1, p.2) (words-ending _);
      untouched = λ none. (refl, refl);
      end = rw (p.1, p.2) (words-not_read _);
      done = λ takes h. err-not_ok _ _ tt p.1 h;
      spared = words-spared g.S.Source.calls g.S.Source.taken c.args.source.now _;
      taken = none-taken (g.S.Source.left c.args.source.now) _;
      turns = asks-start g.S.Source.calls g.S.Source.taken c.args.source.now (g.S.Source.left c.args.source.now);
      faults = rw (p.1, p.2) (words-faults _ _ _);
      unread = λ whole failed. refl;
      asked = words-asked g.S.Source.calls g.S.Source.taken c.args.source.now _ (g.S.Source.left c.args.source.now);
      in_time = rw (p.1, p.2) (words-in_time g.S.Source.calls g.S.Source.taken c.args.source.now _ _ (g.S.Source.left c.args.source.now) (g.K.Sink.written c.args.sink.now));
      output = rw (p.1, p.2) (words-output _ _ c.in_err-command.ensures.usage (g.S.Source.left c.args.source.now) (g.K.Sink.written c.args.sink.now) (g.S.Source.taken c.args.source.now - g.S.Source.taken c.args.source.now) (omega arith));
    }

-- ---- the words give a command

pub returns : goal.returns
returns g c =
    let is = c.in_ok-command.ensures.ok in
    record {
      usage = λ h. absurd (c.write_output.ensures.words h);
      refused = λ none. absurd (let both : Some _ ≡ None = sym is ∙ none in cc);
      untouched = λ none. absurd (let both : Some _ ≡ None = sym is ∙ none in cc);
      end = rw is c.write_output.ensures.end;
      done = rw is c.write_output.ensures.done;
      spared = rw is c.write_output.ensures.spared;
      taken = c.write_output.ensures.taken;
      turns = c.write_output.ensures.turns;
      faults = c.write_output.ensures.faults;
      unread = rw is c.write_output.ensures.unread;
      asked = rw is c.write_output.ensures.asked;
      in_time = rw is c.write_output.ensures.in_time;
      output = rw is c.write_output.ensures.output;
    }

use Rattle.pip_stream.proofs.Words.{◌∙◌, sym, ap, length, next_open}
use Rattle.pip_stream.proofs.Opening.{drops-to_open, drops-all}
use Rattle.pip_stream.proofs.open.skip_closed.Goals as goal

pub returns-in-Some : goal.returns-in-Some
returns-in-Some c =
    drops-to_open _ _ c.in-Some.place (ap (next_open 0) (sym c.held.ensures.value) ∙ sym c.next_open.ensures.value ∙ c.in-Some.is) c.drop_front.ensures

pub returns-in-None : goal.returns-in-None
returns-in-None c =
    drops-all c.args.window.now _ (length c.held-all.result.now) (ap (next_open 0) (sym c.held.ensures.value) ∙ sym c.next_open.ensures.value ∙ c.in-None.is) (ap length c.held-all.ensures.value) c.drop_front-in-None.ensures

use Rattle.pip_stream.proofs.Words.{arith, ap, sym, ◌∙◌, take, read_native}
use Rattle.pip_stream.proofs.Taking.{place-within, taken}
use Rattle.pip_stream.proofs.next.take_item.Goals as goal

pub behind-requires : goal.behind-requires
behind-requires c =
    let place = place-within c.split_at.result.0.now c.in-Err.refusal c.in-Err.ensures.agrees in
    omega (arith, place, c.split_at.ensures.front_len, c.requires.item.within, c.requires.item.few, c.base-base.ensures)

pub returns-in-Ok : goal.returns-in-Ok
returns-in-Ok c =
    taken c.args.window.now c.args.n c.requires.open_first c.requires.item _ c.in-Ok.found (ap (λ b. read_native b 0) (sym (c.split_at.ensures.front ∙ ap (take c.args.n) c.held.ensures.value)) ∙ c.in-Ok.ensures.agrees) c.drop_front.ensures

use Rattle.refuter.proofs.Words.{rules, ◌≡◌, length, first_trace, run_same}
use Rattle.refuter.proofs.FurtherForms.{kept-traced, kept-run}
use Rattle.refuter.proofs.refuter.Refuter.refute_kept.Goals as goal

pub refute_behind-requires-clause-traced : goal.refute_behind-requires-clause-traced
refute_behind-requires-clause-traced c =
    let trace : c.restart.new.self ≡ first_trace c.args.places.now (length c.args.known.now) c.args.first = search rules in
    let same : c.self.inside.front ≡ c.args.self.now = search rules in
    rw same (kept-traced c.args.places.now c.args.known.now c.args.first c.args.self.now.width c.restart.new.self c.requires.first.width trace)

pub returns-clause-gives : goal.returns-clause-gives
returns-clause-gives c =
    let trace : c.restart.new.self ≡ first_trace c.args.places.now (length c.args.known.now) c.args.first = search rules in
    let run = kept-run c.args.places.now c.args.known.now c.args.first c.args.self.now.width c.restart.new.self c.requires.first.width trace c.args.work.now c.requires.some_known in
    let same : c.self.inside.front ≡ c.args.self.now = search rules in
    run_same (rw same at c.refute_behind.ensures.gives) run

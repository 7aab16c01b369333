use Rattle.refutation_steps.proofs.Words.{rules, ◌≡◌, length, first_trace, run_same}
use Rattle.refutation_steps.proofs.Tracing.{first-traced, first-run}
use Rattle.refutation_steps.proofs.refute.run.Goals as goal

pub refute_run-requires-clause-traced : goal.refute_run-requires-clause-traced
refute_run-requires-clause-traced c =
    let trace : c.restart.new.self ≡ first_trace c.args.places.now (length c.args.forms.now) c.args.first = search rules in
    first-traced c.args.forms.now c.args.places.now c.args.first c.in_ok-rows.rows c.restart.new.self c.in_ok-rows.ensures.value trace

pub returns : goal.returns
returns c =
    let trace : c.restart.new.self ≡ first_trace c.args.places.now (length c.args.forms.now) c.args.first = search rules in
    let run = first-run c.args.forms.now c.args.places.now c.args.first c.in_ok-rows.rows c.restart.new.self c.in_ok-rows.ensures.value trace c.args.work.now in
    record { gives = run_same c.refute_run.ensures.gives run }

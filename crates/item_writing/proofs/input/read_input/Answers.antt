use Rattle.item_writing.proofs.Words.{arith, refl, ◌∙◌, err_from_is_err_and, counts-none}
use Rattle.std.proofs.lemmas.Grind.{common_steps}
use Rattle.item_writing.proofs.Faults.{counts-failed}
use Rattle.item_writing.proofs.Turns.{takes-read}
use Rattle.item_writing.proofs.input.read_input.Goals as goal

pub loop-buf-preserved : goal.loop-buf-preserved
loop-buf-preserved g c = (
  grind (arith, common_steps),
  c.in-Ok.ensures.faults.quiet (λ e. cc) ∙ c.loop-buf.invariant.1,
  grind (arith, common_steps),
  grind (arith, common_steps),
  takes-read g.S.Source.calls g.S.Source.taken c.args.source.now c.loop-buf.source c.read.new.self (g.S.Source.left c.args.source.now) (g.S.Source.left c.loop-buf.source) c.loop-buf.bytes.items c.in-Ok.count c.loop-buf.invariant.0 c.loop-buf.invariant.4 c.in-Ok.ensures.counted (omega (arith, c.if-count-eq0.false)) c.in-Ok.ensures.step,
)

pub returns-in-Err-clause-faults : goal.returns-in-Err-clause-faults
returns-in-Err-clause-faults g c = counts-failed _ _ _ c.loop-buf.invariant.1 c.in-Err.ensures.faults refl refl

pub returns-then-count-eq0-clause-faults : goal.returns-then-count-eq0-clause-faults
returns-then-count-eq0-clause-faults g c = counts-none _ _ (λ h. cc) (c.in-Ok.ensures.faults.quiet (λ e. cc) ∙ c.loop-buf.invariant.1)

pub returns-in_err-extend_from_slice-clause-faults : goal.returns-in_err-extend_from_slice-clause-faults
returns-in_err-extend_from_slice-clause-faults g c =
    let p = err_from_is_err_and c.from_residual.result c.from_residual.ensures.1 in
    rw (p.1, p.2) (counts-none _ _ (λ h. cc) (c.in-Ok.ensures.faults.quiet (λ e. cc) ∙ c.loop-buf.invariant.1))

pub returns-clause-faults : goal.returns-clause-faults
returns-clause-faults g c = counts-none _ _ (λ h. cc) c.loop-buf.invariant.1

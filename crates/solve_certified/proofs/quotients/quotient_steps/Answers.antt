use Rattle.solve_certified.proofs.Words.{◌≡◌, ◌∙◌, ap, ◌+◌, length, take, arith, length-take-le, PathQuotient}
use Rattle.solve_certified.proofs.QuotientLists.{reads_at}
use Rattle.solve_certified.proofs.quotients.quotient_steps.Goals as goal

pub step-requires-clause-reads : goal.step-requires-clause-reads
step-requires-clause-reads c =
    let n = c.args.params + c.loop-j.j in
    let long : length (take n c.args.places.now) ≡ n = length-take-le n c.args.places.now (omega (arith, c.requires.number, c.loop-j-test.true)) in
    let rest : n + 1 ≡ length (take n c.args.places.now) + 1 = omega (arith, long) in
    ap (λ (k : PathQuotient). length k.quotient.form) c.index-quotients-j.is
    ∙ reads_at c.args.params c.args.quotients.now c.loop-j.j c.index-quotients-j.result c.requires.reads c.loop-j-test.true
    ∙ rest

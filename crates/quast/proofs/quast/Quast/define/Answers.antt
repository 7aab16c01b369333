use Rattle.quast.proofs.Words.{◌≡◌, ◌+◌, ap, arith, rules, ScopedTree}
use Rattle.quast.proofs.Scopes.{newparm-quast}
use Rattle.quast.proofs.quast.Quast.define.Goals as goal

pub invariant_of-result : goal.invariant_of-result
invariant_of-result c =
    let range = c.ranges.d in
    let a_width = ap (λ (q : ScopedTree). q.width) c.a.view_is in
    let inner : c.a.inside.width ≡ c.form_width-width.result + 1 = omega arith in
    let a = rw inner at c.a.invariant.0 in
    rw (c.in-Ok.ensures.ok) (newparm-quast _ c.args.v _ _ (omega arith) c.form_width-width.ensures.fits (search rules) (search rules) a (omega arith), omega arith)

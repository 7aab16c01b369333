use Rattle.quast.proofs.Words.{◌≡◌, ◌∙◌, ap, ap₂, arith, ℕ, ScopedTree}
use Rattle.quast.specs.Trees.{tree_of}
use Rattle.quast.specs.declared.node.Node.{Node}
use Rattle.quast.specs.declared.quast.Parts.TheVariants as parts
use Rattle.quast.proofs.Scopes.{if-quast}
use Rattle.quast.proofs.quast.Quast.select.Goals as goal

pub invariant_of-result : goal.invariant_of-result
invariant_of-result c =
    let a_width = ap (λ (q : ScopedTree). q.width) c.a.view_is in
    let b_width = ap (λ (q : ScopedTree). q.width) c.b.view_is in
    let first : c.form_width-width.result ≡ c.a.inside.width = omega arith in
    let second : c.a.inside.width ≡ c.b.inside.width = omega arith in
    let b = rw (← second) at c.b.invariant.0 in
    rw (c.in-Ok.ensures.ok, c.in-Ok-new.ensures.ok, first) (if-quast _ c.args.v _ _ (omega arith) c.form_width-width.ensures.fits c.a.invariant.0 b (omega arith) (omega arith), omega arith)

abbrev scoped : ℕ → Node → ScopedTree
scoped w n = record { width = w; tree = tree_of n }

pub returns-in-Err-clause-parts : goal.returns-in-Err-clause-parts
returns-in-Err-clause-parts c =
    let width : c.form_width-width.result ≡ c.a.inside.width = omega (arith, ap (λ (q : ScopedTree). q.width) c.a.view_is) in
    ap (λ (a : ScopedTree). parts.Select c.args.v a c.args.b) (ap₂ scoped width c.in-Err.ensures.value_returned ∙ c.a.view_is)

pub returns-in-Err-new-clause-parts : goal.returns-in-Err-new-clause-parts
returns-in-Err-new-clause-parts c =
    let first : c.form_width-width.result ≡ c.a.inside.width = omega (arith, ap (λ (q : ScopedTree). q.width) c.a.view_is) in
    let second : c.form_width-width.result ≡ c.b.inside.width = omega (arith, ap (λ (q : ScopedTree). q.width) c.a.view_is, ap (λ (q : ScopedTree). q.width) c.b.view_is) in
    ap₂ (parts.Select c.args.v) (ap₂ scoped first (c.into_inner.ensures ∙ c.in-Ok.ensures.ok) ∙ c.a.view_is) (ap₂ scoped second c.in-Err-new.ensures.value_returned ∙ c.b.view_is)

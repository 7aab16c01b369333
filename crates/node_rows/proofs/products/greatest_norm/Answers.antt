use Rattle.node_rows.proofs.Words.{rules, ◌≤◌, subst, List, ℤ, [], get_or_read, all_taken, norms_more}
use Rattle.form_laws.specs.Bounds as bounds
use Rattle.node_rows.proofs.products.greatest_norm.Goals as goal

pub loop-form-preserved : goal.loop-form-preserved
loop-form-preserved c =
    let one : bounds.norm c.form-item.result ≤ c.greater-greatest.result = search rules in
    norms_more c.loop-form.greatest c.greater-greatest.result c.args.forms.now c.loop-form.form-index (search rules) c.loop-form.invariant c.greater-greatest.ensures.first
    (subst (λ (f : List ℤ). bounds.norm f ≤ c.greater-greatest.result) (get_or_read c.args.forms.now c.loop-form.form-index c.form-item.result (search rules) c.form-item.is []) one)

pub returns : goal.returns
returns c = all_taken (λ f. bounds.norm f ≤ c.loop-form.greatest) c.args.forms.now c.loop-form.form-index (search rules) c.loop-form.invariant

use Rattle.affine_forms.proofs.Words.{arith, rules, sym, ◌∙◌, IsTrue, IsFalse, fits, all_fit, ◌+ℤ◌, get_or, length, pos, to_z, w128}
use Rattle.affine_forms.proofs.Values.{listed_at, value_listed_step, value_step, value_refused, constant_added, all_made, value_end}
use Rattle.affine_forms.proofs.evaluation.evaluate.Goals as goal

pub loop-i-preserved : goal.loop-i-preserved
loop-i-preserved c = (
  sym (value_listed_step _ _ _ c.loop-i.i _ (omega arith) (omega arith) (search rules) (search rules)) ∙ c.loop-i.invariant.0,
  value_step _ _ _ c.loop-i.i _ (omega arith) (omega arith) (search rules) ∙ c.loop-i.invariant.1,
)

pub returns-in_err-sum-clause-listed : goal.returns-in_err-sum-clause-listed
returns-in_err-sum-clause-listed c =
    let form = c.args.form.now in
    let v = c.args.v.now in
    let over : IsFalse (all_fit (listed_at (to_z w128 c.loop-i.sum-bits) (get_or form c.loop-i.i (pos 0)) (get_or v c.loop-i.i (pos 0)))) = search rules in
    value_refused (to_z w128 c.loop-i.sum-bits) form v c.loop-i.i _ c.from_residual.ensures.0 (omega arith) (omega arith) c.loop-i.invariant.0 over

pub returns-in_err-whole-clause-listed : goal.returns-in_err-whole-clause-listed
returns-in_err-whole-clause-listed c =
    let form = c.args.form.now in
    let v = c.args.v.now in
    let over : IsFalse (fits ((to_z w128 c.loop-i.sum-bits) +ℤ get_or form (length v) (pos 0))) = search rules in
    constant_added (to_z w128 c.loop-i.sum-bits) form v c.loop-i.i _ c.from_residual-in_err-whole.ensures.0 (omega arith) c.requires.lengths (search rules) c.loop-i.invariant.0 over

pub returns-clause-listed : goal.returns-clause-listed
returns-clause-listed c =
    let form = c.args.form.now in
    let v = c.args.v.now in
    let right : IsTrue (fits ((to_z w128 c.loop-i.sum-bits) +ℤ get_or form (length v) (pos 0))) = search rules in
    all_made (to_z w128 c.loop-i.sum-bits) form v c.loop-i.i (omega arith) c.requires.lengths (search rules) c.loop-i.invariant.0 right

pub returns-clause-value : goal.returns-clause-value
returns-clause-value c =
    (search rules) ∙ value_end (to_z w128 c.loop-i.sum-bits) _ _ c.loop-i.i (omega arith) c.requires.lengths c.loop-i.invariant.1

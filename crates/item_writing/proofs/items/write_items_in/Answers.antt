use Rattle.item_writing.proofs.Words.{rules, refl, ◌∙◌, err_from_is_err_and, counts-none}
use Rattle.item_writing.proofs.Faults.{own-not, err-same, counts-failed}
use Rattle.item_writing.proofs.Written.{one_more, front_of_one, at_none, at_refusal}
use Rattle.item_writing.proofs.items.write_items_in.Goals as goal

pub returns-in_err-after-clause-output : goal.returns-in_err-after-clause-output
returns-in_err-after-clause-output g c =
    let p = err_from_is_err_and c.from_residual.result c.from_residual.ensures.1 in
    rw (p.1, p.2) (at_refusal _ _ _ c.loop-text.at _ c.loop-text.invariant.2 c.in_err-after.ensures.own c.in_err-after.ensures.text)

pub returns-in_err-write_all-clause-output : goal.returns-in_err-write_all-clause-output
returns-in_err-write_all-clause-output g c =
    let p = err_from_is_err_and c.from_residual-in_err-write_all.result c.from_residual-in_err-write_all.ensures.1 in
    rw (p.1, p.2) (front_of_one _ _ _ _ c.loop-text.at _ _ c.loop-text.invariant.2 (rw c.in-Some.is at c.in_ok-after.ensures.text) (rw c.deref.ensures.value at c.in_err-write_all.ensures.bytes))

pub loop-text-preserved : goal.loop-text-preserved
loop-text-preserved g c = (
  search rules,
  search rules,
  one_more _ _ _ _ c.loop-text.at _ _ c.loop-text.invariant.2 (rw c.in-Some.is at c.in_ok-after.ensures.text) (rw c.deref.ensures.value at c.in_ok-write_all.ensures.bytes),
  c.in_ok-write_all.ensures.faults.quiet (λ e. cc) ∙ c.loop-text.invariant.3,
)

pub returns-clause-output : goal.returns-clause-output
returns-clause-output g c = at_none _ _ _ c.loop-text.at c.loop-text.invariant.2 (search rules)

pub returns-in_err-after-clause-faults : goal.returns-in_err-after-clause-faults
returns-in_err-after-clause-faults g c =
    let p = err_from_is_err_and c.from_residual.result c.from_residual.ensures.1 in
    rw (p.1, p.2) (counts-none _ _ (λ h. (own-not _ c.in_err-after.ensures.own).2 (err-same _ _ h)) c.loop-text.invariant.3)

pub returns-in_err-write_all-clause-faults : goal.returns-in_err-write_all-clause-faults
returns-in_err-write_all-clause-faults g c =
    let p = err_from_is_err_and c.from_residual-in_err-write_all.result c.from_residual-in_err-write_all.ensures.1 in
    rw (p.1, p.2) (counts-failed _ _ _ c.loop-text.invariant.3 c.in_err-write_all.ensures.faults refl refl)

pub returns-clause-faults : goal.returns-clause-faults
returns-clause-faults g c = counts-none _ _ (λ h. cc) c.loop-text.invariant.3

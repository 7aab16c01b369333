use Rattle.same.proofs.Words.{pos, negsuc, ◌-ℤ◌, [], ◌∷◌, err_from_is_err_and, constant, plus, opposite, opposite_listed, visit_of, point_or}
use Rattle.same.proofs.finding.find_unequal.Goals as goal

pub returns-in_err-point-clause-finds : goal.returns-in_err-point-clause-finds
returns-in_err-point-clause-finds c =
    let e = c.in_ok-form.form in
    let p = err_from_is_err_and c.from_residual-in_err-point.result c.from_residual-in_err-point.ensures.1 in
    rw (p.1, p.2) (λ next. rw (c.in_ok-form.ensures.listed, ← c.in_ok-form.ensures.value) (c.in_err-point.ensures.finds ((constant e -ℤ pos 1) ∷ []) (plus e (negsuc 0)) (point_or c.args.reading.now.parameters (visit_of c.args.context.now 0) (opposite_listed e) (opposite e) next) c.above-over.ensures.listed c.above-over.ensures.value))

pub returns-in-Some-clause-finds : goal.returns-in-Some-clause-finds
returns-in-Some-clause-finds c = λ next.
    let e = c.in_ok-form.form in
    rw (c.in_ok-form.ensures.listed, ← c.in_ok-form.ensures.value) (rw c.in-Some.is at (c.in_ok-point.ensures.finds ((constant e -ℤ pos 1) ∷ []) (plus e (negsuc 0)) (point_or c.args.reading.now.parameters (visit_of c.args.context.now 0) (opposite_listed e) (opposite e) next) c.above-over.ensures.listed c.above-over.ensures.value))

pub returns-clause-finds : goal.returns-clause-finds
returns-clause-finds c = λ next.
    let e = c.in_ok-form.form in
    let kept = c.find_where.ensures.kept in
    let second = point_or c.args.reading.now.parameters (visit_of c.args.context.now 0) (opposite_listed e) (opposite e) next in
    let first = rw c.in-None.is at (c.in_ok-point.ensures.finds ((constant e -ℤ pos 1) ∷ []) (plus e (negsuc 0)) second c.above-over.ensures.listed c.above-over.ensures.value) in
    rw (c.in_ok-form.ensures.listed, ← c.in_ok-form.ensures.value, first) (rw (kept.width, kept.forms) at (c.find_where-in-None.ensures.finds (opposite_listed e) (opposite e) next c.below-under.ensures.listed c.below-under.ensures.value))

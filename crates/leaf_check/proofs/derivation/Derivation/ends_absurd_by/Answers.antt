use Rattle.leaf_check.proofs.Words.{◌≡◌, ◌<◌, ◌++◌, ◌∷◌, [], rules, arith, common_steps, Ok, Step, length, err_from_is_err_and, spot, after_steps, fault_of, read_over}
use Rattle.leaf_check.proofs.Steps.{split_at_last, front_refused, last_refused, last_made}
use Rattle.leaf_check.proofs.derivation.Derivation.ends_absurd_by.Goals as goal

pub returns-in_err-add_steps-clause-gives : goal.returns-in_err-add_steps-clause-gives
returns-in_err-add_steps-clause-gives c =
    let p = err_from_is_err_and c.from_residual.result c.from_residual.ensures.1 in
    let some : 0 < length c.args.steps.now = grind (arith, common_steps) in
    rw (p.1, p.2) (front_refused c.args.leaf c.args.refutation c.args.self.now.width c.args.self.now.forms c.args.steps.now c.split_at.result.0.now (fault_of c.in_err-add_steps.field-0.0) some (search rules) c.in_err-add_steps.ensures.gives)

pub returns-in_err-absurd-clause-gives : goal.returns-in_err-absurd-clause-gives
returns-in_err-absurd-clause-gives c =
    let p = err_from_is_err_and c.from_residual-in_err-absurd.result c.from_residual-in_err-absurd.ensures.1 in
    let some : 0 < length c.args.steps.now = grind (arith, common_steps) in
    let w = c.args.self.now.width in
    let s : Step = c.index-last-0.result in
    let now = c.add_steps.new.self.forms in
    let at = spot c.args.leaf c.args.refutation (length c.args.steps.now) in
    let is : c.args.steps.now ≡ c.split_at.result.0.now ++ c.index-last-0.result ∷ [] = split_at_last c.args.steps.now c.split_at.result.0.now some (search rules) c.split_at.result.1.now s (search rules) (search rules) in
    let made : after_steps c.args.leaf c.args.refutation 0 c.args.self.now.width c.args.self.now.forms c.split_at.result.0.now ≡ Ok c.add_steps.new.self.forms = search rules in
    let width : c.self.inside.sum.width ≡ c.args.self.now.width = search rules in
    let forms : read_over c.self.inside.sum.width c.deref.result.now ≡ c.add_steps.new.self.forms = search rules in
    rw (p.1, p.2) (last_refused c.args.leaf c.args.refutation w c.args.self.now.forms c.args.steps.now c.split_at.result.0.now (fault_of c.in_err-absurd.field-0.0) s now is made
    (rw (forms, width) at c.in_err-absurd.ensures.gives))

pub returns-clause-gives : goal.returns-clause-gives
returns-clause-gives c =
    let some : 0 < length c.args.steps.now = grind (arith, common_steps) in
    let w = c.args.self.now.width in
    let s : Step = c.index-last-0.result in
    let now = c.add_steps.new.self.forms in
    let at = spot c.args.leaf c.args.refutation (length c.args.steps.now) in
    let is : c.args.steps.now ≡ c.split_at.result.0.now ++ c.index-last-0.result ∷ [] = split_at_last c.args.steps.now c.split_at.result.0.now some (search rules) c.split_at.result.1.now s (search rules) (search rules) in
    let made : after_steps c.args.leaf c.args.refutation 0 c.args.self.now.width c.args.self.now.forms c.split_at.result.0.now ≡ Ok c.add_steps.new.self.forms = search rules in
    let width : c.self.inside.sum.width ≡ c.args.self.now.width = search rules in
    let forms : read_over c.self.inside.sum.width c.deref.result.now ≡ c.add_steps.new.self.forms = search rules in
    last_made c.args.leaf c.args.refutation w c.args.self.now.forms c.args.steps.now c.split_at.result.0.now s now c.in_ok-absurd.absurd is made
    (rw (forms, width) at c.in_ok-absurd.ensures.gives)

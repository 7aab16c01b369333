use Rattle.derivation_steps.proofs.Words.{◌≡◌, ◌∷◌, [], arith, pos, ℕ, subst, err_from_is_err_and, fault_at, get_or, sum_of, rules, Ok, Err, IfSome, read_over, total}
use Rattle.derivation_steps.proofs.Sums.{terms_next, terms_refused}
use Rattle.derivation_steps.proofs.step_sum.StepSum.add_terms.Goals as goal

pub returns-in_err-add_term-clause-gives : goal.returns-in_err-add_term-clause-gives
returns-in_err-add_term-clause-gives c = λ at.
    let p = err_from_is_err_and c.from_residual.result c.from_residual.ensures.1 in
    let gives = subst (λ (w : ℕ). IfSome (fault_at at c.in_err-add_term.field-0.0) (λ f. sum_of at (read_over w c.args.known.now) (total c.loop-term.self) (get_or c.args.terms.now c.loop-term.term-index (pos 0, pos 0) ∷ []) ≡ Err f)) c.loop-term.invariant.1 (c.in_err-add_term.ensures.gives at) in
    rw (p.1, p.2) (terms_refused at (read_over c.args.self.now.width c.args.known.now) (total c.loop-term.self) _ c.args.terms.now c.loop-term.term-index (pos 0, pos 0) (fault_at at c.in_err-add_term.field-0.0) (omega arith) (c.loop-term.invariant.0 at) gives)

pub loop-term-preserved : goal.loop-term-preserved
loop-term-preserved c = (
  λ at.
      let gives = subst (λ (w : ℕ). sum_of at (read_over w c.args.known.now) (total c.loop-term.self) (get_or c.args.terms.now c.loop-term.term-index (pos 0, pos 0) ∷ []) ≡ Ok (total c.add_term.new.self)) c.loop-term.invariant.1 (c.in_ok-add_term.ensures.gives at) in
      terms_next at (read_over c.args.self.now.width c.args.known.now) (total c.loop-term.self) _ c.args.terms.now c.loop-term.term-index (pos 0, pos 0) (total c.add_term.new.self) (omega arith) (c.loop-term.invariant.0 at) gives,
  search rules,
)

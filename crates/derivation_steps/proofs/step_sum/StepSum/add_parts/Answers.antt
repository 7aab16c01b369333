use Rattle.derivation_steps.proofs.Words.{◌≡◌, refl, ap, subst, [], ◌∷◌, ◌++◌, ◌+ℤ◌, ◌*ℤ◌, ℤ, List, to_z-of_z, w128, fit_never, true, ◌∙◌, take, length, IsFalse, all_fit, plus_term_listed, rules, to_z, of_z, refused, is_overflow, PartSum}
use Rattle.pip_model.proofs.Fitting.{fit_behind, fit_join}
use Rattle.derivation_steps.proofs.step_sum.StepSum.add_parts.Goals as goal

pub returns-in_err-add_front-clause-listed : goal.returns-in_err-add_front-clause-listed
returns-in_err-add_front-clause-listed c =
    let m = to_z-of_z w128 c.args.m c.ranges.m in
    let same : c.self.inside.coefficients.items ≡ c.args.self.now.coefficients = ap (λ (s : PartSum). s.coefficients) c.self.view_is in
    let over : IsFalse (all_fit (plus_term_listed (take (length c.args.front.now) c.self.inside.coefficients.items) c.args.m c.args.front.now)) = rw m at (c.in_err-add_front.ensures.listed refl) in
    let first = plus_term_listed (take (length c.args.front.now) c.args.self.now.coefficients) c.args.m c.args.front.now in
    let behind = (c.args.m *ℤ c.args.constant) ∷ (c.args.self.now.constant +ℤ c.args.m *ℤ c.args.constant) ∷ [] in
    refused is_overflow c.from_residual.result (first ++ behind) c.from_residual.ensures.0 (fit_never first behind (subst (λ (l : List ℤ). IsFalse (all_fit (plus_term_listed (take (length c.args.front.now) l) c.args.m c.args.front.now))) same over))

pub invariant_of-self : goal.invariant_of-self
invariant_of-self c = record {
  within = rw c.in_err-add_front.ensures.same c.self.invariant.within;
  fits = c.in_err-add_front.ensures.fits;
  constant = c.self.invariant.constant;
}

pub invariant_of-self-in_err-self-inside : goal.invariant_of-self-in_err-self-inside
invariant_of-self-in_err-self-inside c = record {
  within = rw c.in_ok-add_front.ensures.same c.self.invariant.within;
  fits = c.in_ok-add_front.ensures.fits;
  constant = c.self.invariant.constant;
}

pub invariant_of-self-2 : goal.invariant_of-self-2
invariant_of-self-2 c =
    let number : to_z w128 (of_z w128 c.in_ok-self-inside.field-0) ≡ c.in_ok-self-inside.field-0 = search rules in
    record {
      within = rw c.in_ok-add_front.ensures.same c.self.invariant.within;
      fits = c.in_ok-add_front.ensures.fits;
      constant = rw number c.in_ok-self-inside.ensures.fits;
    }

pub returns-in_err-self-inside-clause-listed : goal.returns-in_err-self-inside-clause-listed
returns-in_err-self-inside-clause-listed c =
    let first = plus_term_listed (take (length c.args.front.now) c.args.self.now.coefficients) c.args.m c.args.front.now in
    let behind = (c.args.m *ℤ c.args.constant) ∷ (c.args.self.now.constant +ℤ c.args.m *ℤ c.args.constant) ∷ [] in
    let fit : all_fit first ≡ true = search rules in
    let over : IsFalse (all_fit behind) = search rules in
    refused is_overflow c.from_residual-in_err-self-inside.result (first ++ behind) c.from_residual-in_err-self-inside.ensures.0 (fit_behind first behind fit ∙ over)

pub returns-clause-listed : goal.returns-clause-listed
returns-clause-listed c =
    let first = plus_term_listed (take (length c.args.front.now) c.args.self.now.coefficients) c.args.m c.args.front.now in
    let behind = (c.args.m *ℤ c.args.constant) ∷ (c.args.self.now.constant +ℤ c.args.m *ℤ c.args.constant) ∷ [] in
    let fit : all_fit first ≡ true = search rules in
    fit_join first behind fit (search rules)

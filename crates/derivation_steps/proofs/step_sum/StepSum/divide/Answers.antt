use Rattle.derivation_steps.proofs.Words.{◌≡◌, ◌∙◌, ◌++◌, arith, rules, length, take, drop, w128, length-map, ap, to_z, of_z, take_at}
use Rattle.derivation_steps.proofs.step_sum.StepSum.divide.Goals as goal

pub invariant_of-self : goal.invariant_of-self
invariant_of-self c =
    let items = c.self.inside.coefficients.items in
    let made = c.divide_all.new.entries in
    let size : length made ≡ length items = ap length c.divide_all.ensures.value ∙ length-map _ _ ∙ ap length c.deref_mut.ensures.value in
    let whole : take c.self.inside.coefficients.len (made ++ drop (length made) items) ≡ made = take_at made _ _ (omega (arith, size, c.self.inside.coefficients.ok.0)) in
    let number : to_z w128 (of_z w128 c.floor_div-self-inside.result) ≡ c.floor_div-self-inside.result = search rules in
    record {
      within = rw (whole, size) c.self.invariant.within;
      fits = rw whole c.divide_all.ensures.fits;
      constant = rw number c.floor_div-self-inside.ensures.fits;
    }

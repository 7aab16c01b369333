use Rattle.affine_forms.proofs.Words.{arith, rules, common_steps, ◌≡◌, ◌∙◌, ◌+◌, ◌-◌, ◌<◌, ◌≤◌, ap, sym, subst, ℕ, ℤ, List, length, take_at, widen_to, IsForm}
use Rattle.pip_model.proofs.Vectors.{length-widen_to}
use Rattle.affine_forms.proofs.QuotientForms.{rounding_is}
use Rattle.affine_forms.proofs.bounds.rounding_entries.Goals as goal

wide : (w : ℕ) (g now : List ℤ) → 0 < length g → length g ≤ w + 1 → now ≡ widen_to w g → length now ≡ w + 1
wide w g now some within e = ap length e ∙ length-widen_to w (length g - 1) g (omega (arith, some)) (omega (arith, within))

pub negate_around-requires-clause-place : goal.negate_around-requires-clause-place
negate_around-requires-clause-place c =
    omega (arith, wide c.args.width c.args.g.now _ c.requires.form.some c.requires.within (c.deref_mut.ensures.value ∙ c.in_ok-made.ensures.value), c.requires.place)

pub returns-clause-value : goal.returns-clause-value
returns-clause-value c = rw (← (rounding_is c.args.width c.args.place c.args.g.now c.args.d (search rules) c.requires.place c.requires.free)) (grind (arith, common_steps))

pub returns-clause-form : goal.returns-clause-form
returns-clause-form c =
    let size = wide c.args.width c.args.g.now _ c.requires.form.some c.requires.within (c.deref_mut.ensures.value ∙ c.in_ok-made.ensures.value) in
    subst IsForm (sym (take_at c.negate_around.new.entries _ c.in_ok-made.made.len (c.negate_around.auto.entries ∙ c.deref_mut.ensures.len)))
    (record { some = omega (arith, c.negate_around.auto.entries, size); fits = c.negate_around.ensures.fits })

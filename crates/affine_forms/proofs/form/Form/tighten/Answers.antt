use Rattle.affine_forms.proofs.Words.{subst, sym, take_at, IsForm, ◌≡◌, arith, ap, ◌∙◌, length, is_nonneg, value, tighten, tighten-sign}
use Rattle.std.proofs.Math.Seq.{take-append_seam}
use Rattle.std.specs.Prelude.{ℤ, List}
use Rattle.affine_forms.proofs.form.Form.tighten.Goals as goal

pub returns-clause-sign : goal.returns-clause-sign
returns-clause-sign c = λ u e.
    let whole : c.self.inside.entries.len ≡ length c.make_tight.new.entries = omega (arith, c.deref_mut.ensures.len, c.deref_mut.ensures.value, c.make_tight.auto.entries) in
    let tight : c.make_tight.new.entries ≡ tighten c.args.self.now = c.make_tight.ensures.value ∙ ap tighten (c.deref_mut.ensures.value ∙ c.self.view_is) in
    rw (whole, take-append_seam c.make_tight.new.entries) (ap (λ (x : List ℤ). is_nonneg (value x u)) tight ∙ tighten-sign c.args.self.now u e)

pub invariant_of-self : goal.invariant_of-self
invariant_of-self c = subst IsForm (sym (take_at c.make_tight.new.entries _ c.self.inside.entries.len (c.make_tight.auto.entries ∙ c.deref_mut.ensures.len))) c.make_tight.ensures.form

pub returns-clause-value : goal.returns-clause-value
returns-clause-value c =
    take_at c.make_tight.new.entries _ c.self.inside.entries.len (c.make_tight.auto.entries ∙ c.deref_mut.ensures.len)
    ∙ c.make_tight.ensures.value ∙ ap tighten (c.deref_mut.ensures.value ∙ c.self.view_is)

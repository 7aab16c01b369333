use Rattle.context_points.proofs.Words.{◌≡◌, ◌∙◌, ap, sym, length}
use Rattle.std.specs.Vec.{vec_len}
use Rattle.context_points.specs.declared.context.Context.TheInside.{Inside}
use Rattle.context_points.proofs.Keeping.{known_all, of_all, ok_tells}
use Rattle.context_points.proofs.context.Context.recall.Goals.{then-self, else-self}
use Rattle.context_points.proofs.context.Context.recall.Goals as goal

pub invariant_of-self : goal.invariant_of-self
invariant_of-self c = elim c.if-self.branch [
  | then-self w ↦
      let n = c.self.inside.width in
      let K = c.self.inside.forms.items in
      let number : c.len-self-inside.result ≡ length c.self.inside.forms.items
      = c.len-self-inside.ensures ∙ ap (λ (s : Inside). vec_len s.forms) w.self-inside-is ∙ sym w.deref.ensures.len ∙ ap length w.deref.ensures.value in
      rw (w.self-is, w.self-inside-is) (
        known_all n c.len-self-inside.result K w.is_ok-self-inside.result w.go_further.new.m c.self.inside.is_known c.self.inside.known c.self.inside.run c.self.invariant.0 number
            (λ h. of_all n c.self.inside.known K w.deref.result.now c.self.inside.run w.go_further.new.m w.deref.ensures.value (c.self.invariant.0.remembered w.if-self.true)
            (ok_tells w.go_further.result w.is_ok-self-inside.result w.is_ok-self-inside.ensures.value w.go_further.ensures h)),
        (λ tried. number),
        c.self.invariant.2,
      )
  | else-self w ↦
      let n = c.self.inside.width in
      let K = c.self.inside.forms.items in
      let number : c.len-self-inside.result ≡ length c.self.inside.forms.items
      = c.len-self-inside.ensures ∙ ap (λ (s : Inside). vec_len s.forms) w.self-inside-is ∙ sym w.deref-else-self.ensures.len ∙ ap length w.deref-else-self.ensures.value in
      let is = ok_tells w.remember.result w.is_ok-self-inside-else-self.result w.is_ok-self-inside-else-self.ensures.value w.remember.ensures in
      rw (w.self-is, w.self-inside-is) (
        known_all n c.len-self-inside.result K w.is_ok-self-inside-else-self.result w.remember.new.m c.self.inside.is_known c.self.inside.known c.self.inside.run c.self.invariant.0 number
            (λ h. rw (← w.deref-else-self.ensures.value) (is h)),
        (λ tried. number),
        c.self.invariant.2,
      )
]

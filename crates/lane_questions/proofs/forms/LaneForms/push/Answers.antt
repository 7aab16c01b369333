use Rattle.lane_questions.proofs.Words.{rules, arith, ◌≡◌, [], ◌∷◌, ◌++◌, subst, sym, norm, AreWithin}
use Rattle.lane_questions.proofs.FormLanes.{within_pushed}
use Rattle.lane_questions.proofs.forms.LaneForms.push.Goals as goal

pub invariant_of-self-2 : goal.invariant_of-self-2
invariant_of-self-2 c =
    let items : c.push.new.self.items ≡ c.self.inside.forms.items ++ c.args.form ∷ [] = search rules in
    let size : c.in-Some.size ≡ norm c.args.form = search rules in
    record {
      within = subst (AreWithin c.max-self-inside.result) (sym items) (within_pushed c.self.inside.norm c.in-Some.size c.max-self-inside.result c.self.inside.forms.items c.args.form
          (omega (arith, c.max-self-inside.ensures)) (omega (arith, c.max-self-inside.ensures)) c.self.invariant.within c.small_norm.ensures.lanes size);
      small = omega (arith, c.max-self-inside.ensures, c.self.invariant.small, c.in-Some.ensures.small);
    }

use Rattle.leaf_check.proofs.Words.{◌≡◌, ◌∙◌, ap, ap₂, ℕ, ℤ, List, arith, rules, [], ◌∷◌, ◌++◌, ◌-◌, length, length-append, take-append-le, common_steps, KnownForms}
use Rattle.leaf_check.proofs.Smaller.{last_smaller, smaller_step, smaller_end}
use Rattle.leaf_check.proofs.known.Known.push_smaller.Goals as goal

pub loop-i-preserved : goal.loop-i-preserved
loop-i-preserved c =
    let forms : c.push.new.self.forms ≡ c.loop-i.self.forms ++ c.from_entries.result ∷ [] = search rules in (
      smaller_step c.args.self.now.width c.args.scope c.args.front.now c.loop-i.i c.index-front-i.result c.loop-i.self.forms c.push.new.self.forms _ c.from_entries.result (omega arith) c.loop-i.invariant.0 forms (search rules),
      search rules,
      rw forms (take-append-le (length c.args.self.now.forms) c.loop-i.self.forms _ c.loop-i.invariant.3 ∙ c.loop-i.invariant.2),
      rw forms (simp length-append (omega (arith, c.loop-i.invariant.3))),
    )

pub returns-in_err-form-clause-listed : goal.returns-in_err-form-clause-listed
returns-in_err-form-clause-listed c =
    rw (last_smaller c.args.self.now.width c.args.scope c.args.front.now (length c.args.front.now - 1) c.index-front-last.result (omega arith) []) (grind (arith, common_steps))

pub returns-clause-listed : goal.returns-clause-listed
returns-clause-listed c =
    rw (last_smaller c.args.self.now.width c.args.scope c.args.front.now (length c.args.front.now - 1) c.index-front-last.result (omega arith) []) (grind (arith, common_steps))

pub returns-clause-pushed : goal.returns-clause-pushed
returns-clause-pushed c =
    let last : c.loop-i.i ≡ length c.args.front.now - 1 = omega arith in
    let made = smaller_end c.args.self.now.width c.args.scope c.args.front.now (length c.args.front.now - 1) c.index-front-last.result c.loop-i.self.forms _ c.in_ok-form.form (omega arith) (rw last at c.loop-i.invariant.0) (search rules) in
    let pushed = c.in_ok-push-2.ensures.ok ∙ ap (λ (k : KnownForms). let grown : KnownForms = record { width = k.width; forms = k.forms ++ c.in_ok-form.form ∷ [] } in grown) c.room-2.ensures.same in
    let forms = ap (λ (k : KnownForms). k.forms) pushed in
    record {
      ok = pushed ∙ ap₂ (λ (w : ℕ) (xs : List (List ℤ)). let k : KnownForms = record { width = w; forms = xs } in k) c.loop-i.invariant.1 made;
      front = rw forms (take-append-le (length c.args.self.now.forms) c.loop-i.self.forms _ c.loop-i.invariant.3 ∙ c.loop-i.invariant.2);
      width = ap (λ (k : KnownForms). k.width) pushed ∙ c.loop-i.invariant.1;
    }

use Rattle.derivation_steps.proofs.Words.{◌≡◌, ◌≤◌, ◌+◌, ◌∙◌, ap, sym, arith, rules, to_z-of_z, w128, pos, replicate, all_fit, width, widen_to, length-widened, total, IsPartSum}
use Rattle.derivation_steps.proofs.Spreading.{first_added, first_listed, total_fits}
use Rattle.derivation_steps.proofs.step_sum.StepSum.add_next.Goals as goal

pub returns-then-is_empty-clause-listed : goal.returns-then-is_empty-clause-listed
returns-then-is_empty-clause-listed c =
    let once : c.args.m ≡ pos 1 = search rules in
    let none : total c.args.self.now ≡ replicate (c.args.self.now.width + 1) (pos 0) = search rules in
    let narrow : width c.args.form.now ≤ c.args.self.now.width = omega (arith, c.requires.within) in
    let part : IsPartSum c.begin.new.self = search rules in
    rw (once, none) (first_listed (c.args.self.now.width + 1) (widen_to c.args.self.now.width c.args.form.now) (length-widened c.args.self.now.width c.args.form.now narrow)
    (ap all_fit (sym c.in_ok-begin.ensures.ok) ∙ total_fits c.begin.new.self part))

pub returns-then-is_empty-clause-ok : goal.returns-then-is_empty-clause-ok
returns-then-is_empty-clause-ok c =
    let once : c.args.m ≡ pos 1 = search rules in
    let none : total c.args.self.now ≡ replicate (c.args.self.now.width + 1) (pos 0) = search rules in
    let narrow : width c.args.form.now ≤ c.args.self.now.width = omega (arith, c.requires.within) in
    rw (once, none) (c.in_ok-begin.ensures.ok ∙ sym (first_added (c.args.self.now.width + 1) (widen_to c.args.self.now.width c.args.form.now) (length-widened c.args.self.now.width c.args.form.now narrow)))

pub returns-clause-listed : goal.returns-clause-listed
returns-clause-listed c = let m = to_z-of_z w128 c.args.m c.ranges.m in rw m at c.add.ensures.listed

pub returns-clause-ok : goal.returns-clause-ok
returns-clause-ok c = let m = to_z-of_z w128 c.args.m c.ranges.m in rw m at c.add.ensures.ok

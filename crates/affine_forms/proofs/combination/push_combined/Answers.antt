use Rattle.affine_forms.proofs.Words.{refl, take_all, arith, rules, sym, ◌∙◌, length, length-append, to_z-of_z, common_steps, All-push, take-append-le, Fits}
use Rattle.affine_forms.proofs.Combined.{listed_step, listed_refused, listed_end, combine_step, combine_end}
use Rattle.affine_forms.proofs.combination.push_combined.Goals as goal

pub loop-i-init : goal.loop-i-init
loop-i-init c = (refl, refl, c.requires.fits, omega arith, take_all (length c.args.out.now.items) c.args.out.now.items (omega arith))

pub returns-in_err-entry-clause-listed : goal.returns-in_err-entry-clause-listed
returns-in_err-entry-clause-listed c = grind (arith, common_steps, to_z-of_z, listed_refused)

pub loop-i-preserved : goal.loop-i-preserved
loop-i-preserved c = rw c.in_ok-push.ensures.items (
  sym (listed_step _ _ _ _ c.loop-i.i (omega arith) (omega arith) (search rules)) ∙ c.loop-i.invariant.0,
  combine_step _ _ _ _ _ _ c.loop-i.i (omega arith) (omega arith) (search rules) ∙ c.loop-i.invariant.1,
  All-push Fits _ _ c.loop-i.invariant.2 (search rules),
  simp length-append (omega (arith, c.loop-i.invariant.3)),
  take-append-le (length c.args.out.now.items) c.loop-i.out.items _ c.loop-i.invariant.3 ∙ c.loop-i.invariant.4,
)

pub returns-clause-listed : goal.returns-clause-listed
returns-clause-listed c =
    let a = c.ranges.a in
    let b = c.ranges.b in
    let left = simp to_z-of_z at c.loop-i.invariant.0 in
    sym left ∙ listed_end c.args.a c.args.b c.args.r.now c.args.s.now c.loop-i.i (omega arith)

pub returns-clause-value : goal.returns-clause-value
returns-clause-value c =
    let a = c.ranges.a in
    let b = c.ranges.b in
    let left = simp to_z-of_z at c.loop-i.invariant.1 in
    sym (combine_end c.args.a c.args.b c.loop-i.out.items c.args.r.now c.args.s.now c.loop-i.i (omega arith)) ∙ left

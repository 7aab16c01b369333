use Rattle.new_parameters.proofs.Words.{rules, ◌≡◌, ◌-◌, pos, false, take, get_or, arith, sym, ap, ◌∙◌, int_eq, trimmed}
use Rattle.new_parameters.proofs.Trimming.{trimmed-take_zero, trimmed-take_other}
use Rattle.new_parameters.proofs.quotient.trim_zeros.Goals.{then-loop-count-test+else-numbers-count-eq0, else-loop-count-test}
use Rattle.new_parameters.proofs.quotient.trim_zeros.Goals as goal

pub loop-count-preserved : goal.loop-count-preserved
loop-count-preserved c =
    let zero : get_or c.args.numbers.now (c.loop-count.count - 1) (pos 0) ≡ pos 0 = search rules in
    (omega arith, trimmed-take_zero c.args.numbers.now c.loop-count.count (omega arith) c.loop-count.invariant.0 zero ∙ c.loop-count.invariant.1)

pub returns : goal.returns
returns c = elim c.loop-count-test.branch [
  | then-loop-count-test+else-numbers-count-eq0 w ↦
      let other : int_eq (get_or c.args.numbers.now (c.loop-count.count - 1) (pos 0)) (pos 0) ≡ false = search rules in
      sym (trimmed-take_other c.args.numbers.now c.loop-count.count (omega arith) c.loop-count.invariant.0 other) ∙ c.loop-count.invariant.1
  | else-loop-count-test w ↦
      let none : c.loop-count.count ≡ 0 = omega arith in
      ap (λ k. take k c.args.numbers.now) none ∙ ap (λ k. trimmed (take k c.args.numbers.now)) (sym none) ∙ c.loop-count.invariant.1
]

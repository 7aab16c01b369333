use Rattle.short_row.proofs.Words.{rules, arith, ◌≡◌, ap, subst, ◌+◌, ◌*ℤ◌, pos, to_z, of_z, w64, sym, ◌∙◌, get_or, gcd, gcd_of, gcd_one, All-set, IsShort, IsHalfDivisor, scaled_front}
use Rattle.short_row.proofs.Wholes.{scaled_step, scaled_zero, scaled_all, scaled_one, common_less, common_whole}
use Rattle.short_row.proofs.whole.divide_common.Goals as goal
use Rattle.short_row.proofs.whole.divide_common.Goals.{then-entries-i-ne0+in-Some, then-entries-i-ne0+in_default+else-divisor-eq1, else-entries-i-ne0}

pub returns-then-divisor-eq1-clause-value : goal.returns-then-divisor-eq1-clause-value
returns-then-divisor-eq1-clause-value c =
    let one : c.divide_less-divisor.result ≡ pos 1 = search rules in
    let common = common_less (to_z w64 c.loop-i.divisor-bits) c.divide_less-divisor.result (to_z w64 (of_z w64 c.args.d)) c.args.entries.now c.loop-i.entries c.loop-i.i (omega arith)
    c.loop-i.invariant.value c.divide_less-divisor.ensures.value c.loop-i.invariant.common in
    search (rules, (sym (gcd_one (gcd_of c.args.entries.now)) ∙ ap (λ z. gcd z (gcd_of c.args.entries.now)) (sym one) ∙ common))

pub returns-then-divisor-eq1-clause-whole : goal.returns-then-divisor-eq1-clause-whole
returns-then-divisor-eq1-clause-whole c =
    let one : c.divide_less-divisor.result ≡ pos 1 = search rules in
    let now = c.divide_less-divisor.new.entries in
    scaled_one now c.args.entries.now (c.loop-i.i + 1) (ap (λ z. scaled_front z now (c.loop-i.i + 1)) (sym one) ∙ c.divide_less-divisor.ensures.whole ∙ c.loop-i.invariant.value)

pub loop-i-preserved : goal.loop-i-preserved
loop-i-preserved c = elim c.if-entries-i-ne0.branch [
  | then-entries-i-ne0+in-Some w ↦ rw (w.entries-is, w.divisor-is) (record {
    value =
        let whole : to_z w64 c.loop-i.divisor-bits *ℤ to_z w64 (of_z w64 w.in-Some.quotient) ≡ get_or c.loop-i.entries c.loop-i.i (pos 0) = search rules in
        scaled_step (to_z w64 c.loop-i.divisor-bits) c.args.entries.now c.loop-i.entries c.loop-i.i (to_z w64 (of_z w64 w.in-Some.quotient)) (omega arith) c.loop-i.invariant.value whole;
    common = c.loop-i.invariant.common;
    divisor = c.loop-i.invariant.divisor;
    short = All-set IsShort _ _ _ (search rules) c.loop-i.invariant.short;
  })
  | then-entries-i-ne0+in_default+else-divisor-eq1 w ↦
      let now = w.divide_less-divisor.new.entries in
      let divisor = to_z w64 (of_z w64 w.divide_less-divisor.result) in
      let same : to_z w64 (of_z w64 w.divide_less-divisor.result) ≡ w.divide_less-divisor.result = search rules in
      rw (w.entries-is, w.divisor-is) (record {
        value = ap (λ z. scaled_front z now (c.loop-i.i + 1)) same ∙ w.divide_less-divisor.ensures.whole ∙ c.loop-i.invariant.value;
        common =
            common_less (to_z w64 c.loop-i.divisor-bits) divisor (to_z w64 (of_z w64 c.args.d)) c.args.entries.now c.loop-i.entries c.loop-i.i (omega arith)
            c.loop-i.invariant.value (same ∙ w.divide_less-divisor.ensures.value) c.loop-i.invariant.common;
        divisor = subst IsHalfDivisor (sym same) w.divide_less-divisor.ensures.divisor;
        short = w.divide_less-divisor.ensures.short;
      })
  | else-entries-i-ne0 w ↦ rw (w.entries-is, w.divisor-is) (record {
    value =
        let none : get_or c.loop-i.entries c.loop-i.i (pos 0) ≡ pos 0 = search rules in
        scaled_zero (to_z w64 c.loop-i.divisor-bits) c.args.entries.now c.loop-i.entries c.loop-i.i (omega arith) c.loop-i.invariant.value none;
    common = c.loop-i.invariant.common;
    divisor = c.loop-i.invariant.divisor;
    short = c.loop-i.invariant.short;
  })
]

pub returns-clause-value : goal.returns-clause-value
returns-clause-value c =
    let divisor = to_z w64 c.loop-i.divisor-bits in
    let whole = sym (scaled_all divisor c.loop-i.entries c.loop-i.i (omega arith)) ∙ c.loop-i.invariant.value in
    let found : to_z w64 c.loop-i.divisor-bits ≡ gcd (to_z w64 (of_z w64 c.args.d)) (gcd_of c.args.entries.now)
    = common_whole divisor (to_z w64 (of_z w64 c.args.d)) c.args.entries.now c.loop-i.entries c.loop-i.invariant.divisor.positive whole c.loop-i.invariant.common in
    search (rules, found)

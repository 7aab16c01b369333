use Rattle.pip_words.proofs.Words.{◌∙◌, ap₂, sym, arith, ◌+◌, ◌*◌, ◌-◌, is_digit}
use Rattle.std.proofs.lemmas.List.Sums.{fold_more}
use Rattle.std.proofs.lemmas.List.Folds.{list_all_more}
use Rattle.pip_words.proofs.Digits.{too_big}
use Rattle.pip_words.proofs.number.number.Goals as goal
use Rattle.pip_words.proofs.number.number.Goals.{then-digit-most-via-then-digit-most, then-digit-most-via-else-digit-most+then-value-most}

pub returns-then-digit-most-clause-value : goal.returns-then-digit-most-clause-value
returns-then-digit-most-clause-value c = too_big c.args.most c.args.text.now c.loop-byte.byte-index c.loop-byte-test.true
    (elim c.then-digit-most.branch [
      | then-digit-most-via-then-digit-most w ↦ omega (arith, c.loop-byte.invariant.value)
      | then-digit-most-via-else-digit-most+then-value-most w ↦ omega (arith, c.loop-byte.invariant.value)
    ])

pub loop-byte-preserved : goal.loop-byte-preserved
loop-byte-preserved c = record {
  value = ap₂ (λ n d. n * 10 + d) c.loop-byte.invariant.value c.from-digit.ensures
      ∙ sym (fold_more (λ n b. n * 10 + (b - 48)) 0 c.args.text.now c.loop-byte.byte-index 0 c.loop-byte-test.true);
  digits = rw (list_all_more is_digit c.args.text.now c.loop-byte.byte-index 0 c.loop-byte-test.true, c.loop-byte.invariant.digits)
      (sym c.if-not-is_ascii_digit.ensures.value);
  within = omega (arith, c.if-value-most.false, c.if-digit-most.false);
}

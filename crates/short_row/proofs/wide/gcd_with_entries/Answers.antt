use Rattle.short_row.proofs.Words.{arith, rules, ◌≡◌, ◌∙◌, ap, to_z, of_z, w128, to_z-of_z, common_steps, gcd, gcd_of, combine, gcd_one}
use Rattle.short_row.proofs.Finished.{gcd_next, gcd_end}
use Rattle.short_row.proofs.wide.gcd_with_entries.Goals as goal

pub loop-i-preserved : goal.loop-i-preserved
loop-i-preserved c = record {
  value =
      gcd_next c.args.by.of_row c.args.by.of_pivot c.args.r.now c.args.s.now c.requires.terms.lengths c.loop-i.i (to_z w128 c.loop-i.found-bits) c.wide_entry.result (to_z w128 (of_z w128 c.gcd-found.result)) _
      (omega arith) (search rules) (search rules) c.loop-i.invariant.value;
  divisor = search rules;
}

pub returns-then-found-eq1-clause-value : goal.returns-then-found-eq1-clause-value
returns-then-found-eq1-clause-value c = grind (arith, common_steps, to_z-of_z, gcd_one)

pub returns-clause-value : goal.returns-clause-value
returns-clause-value c =
    let same : to_z w128 (of_z w128 c.args.start) ≡ c.args.start = search rules in
    gcd_end c.args.by.of_row c.args.by.of_pivot c.args.r.now c.args.s.now c.requires.terms.lengths c.loop-i.i _ _ c.loop-i.invariant.divisor.positive (omega arith) c.loop-i.invariant.value
    ∙ ap (λ z. gcd z (gcd_of (combine c.args.by.of_row c.args.r.now c.args.by.of_pivot c.args.s.now))) same

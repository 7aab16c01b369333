use Rattle.short_row.proofs.Words.{arith, rules, ◌≡◌, ◌∙◌, ap, sym, get_or, pos, ◌-ℤ◌, ◌*ℤ◌, to_z, of_z, w64, w128, list_all, All-set, floor_div, combine, floor_divided, is_short, IsShort}
use Rattle.short_row.proofs.Finished.{quotient_next, quotient_end, quotient_long}
use Rattle.short_row.proofs.wide.divide_entries.Goals as goal

pub loop-i-preserved : goal.loop-i-preserved
loop-i-preserved c = record {
  value =
      quotient_next c.args.by.of_row c.args.by.of_pivot c.args.r.now c.args.s.now c.requires.terms.lengths (to_z w128 (of_z w128 c.args.d)) c.loop-i.i (omega arith) c.loop-i.r c.loop-i.invariant.value
      c.wide_entry-number.result (to_z w64 (of_z w64 c.in-Some.quotient)) (search rules) (search rules);
  short = All-set IsShort _ _ _ (search rules) c.loop-i.invariant.short;
}

pub returns : goal.returns
returns c = record {
  value = λ all.
      quotient_end c.args.by.of_row c.args.by.of_pivot c.args.r.now c.args.s.now c.requires.terms.lengths (to_z w128 (of_z w128 c.args.d)) c.loop-i.i (omega arith) c.loop-i.r c.loop-i.invariant.value
      ∙ ap (λ d. floor_divided d (combine c.args.by.of_row c.args.r.now c.args.by.of_pivot c.args.s.now)) (search rules);
  short = λ all. c.loop-i.invariant.short;
  long = λ none. cc;
}

pub returns-in_default : goal.returns-in_default
returns-in_default c = record {
  value = λ all. cc;
  short = λ all. absurd cc;
  long = λ none.
      let same : to_z w128 (of_z w128 c.args.d) ≡ c.args.d = search rules in
      let number : to_z w128 (of_z w128 c.wide_entry-number.result) ≡ c.wide_entry-number.result = search rules in
      let z : c.wide_entry-number.result ≡ c.args.by.of_row *ℤ get_or c.loop-i.r c.loop-i.i (pos 0) -ℤ c.args.by.of_pivot *ℤ get_or c.args.s.now c.loop-i.i (pos 0) = search rules in
      ap (λ d. list_all is_short (floor_divided d (combine c.args.by.of_row c.args.r.now c.args.by.of_pivot c.args.s.now))) (sym same)
      ∙ quotient_long c.args.by.of_row c.args.by.of_pivot c.args.r.now c.args.s.now c.requires.terms.lengths (to_z w128 (of_z w128 c.args.d)) c.loop-i.i (omega arith) c.loop-i.r c.loop-i.invariant.value
      c.wide_entry-number.result z (ap (λ x. is_short (floor_div x (to_z w128 (of_z w128 c.args.d)))) (sym number) ∙ c.in_default.ensures.long);
}

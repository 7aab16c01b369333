use Rattle.short_row.proofs.Words.{arith, rules, ◌≡◌, length, All-set, IsShort, combined, combined_step}
use Rattle.short_row.proofs.Finished.{finished_combined}
use Rattle.short_row.proofs.halves.combine_listed.Goals as goal

pub loop-i-preserved : goal.loop-i-preserved
loop-i-preserved c = record {
  value =
      let made = combined_step c.args.by.of_row c.args.by.of_pivot c.args.r.now c.args.s.now c.requires.terms.lengths c.loop-i.i (omega arith) c.loop-i.r c.half_difference.result (search rules) (search rules) in
      search (rules, made);
  short = All-set IsShort _ _ _ (search rules) c.loop-i.invariant.short;
}

pub returns-then-not-is_half-clause-value : goal.returns-then-not-is_half-clause-value
returns-then-not-is_half-clause-value c =
    let made : c.loop-i.r ≡ combined c.args.by.of_row c.args.r.now c.args.by.of_pivot c.args.s.now c.loop-i.i = search (rules, c.loop-i.invariant.value) in
    finished_combined c.args.by.of_row c.args.by.of_pivot c.args.r.now c.args.s.now c.loop-i.i c.loop-i.r c.requires.terms.lengths (omega arith) made

pub returns-clause-value : goal.returns-clause-value
returns-clause-value c =
    let whole = finished_combined c.args.by.of_row c.args.by.of_pivot c.args.r.now c.args.s.now (length c.loop-i.r) c.loop-i.r c.requires.terms.lengths (omega arith) (search (rules, c.loop-i.invariant.value)) in
    search (rules, whole)

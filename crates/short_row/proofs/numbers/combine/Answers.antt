use Rattle.short_row.proofs.Words.{arith, rules, ◌≡◌, length, All-set, IsShort, combined, combined_step}
use Rattle.short_row.proofs.Finished.{finished_combined}
use Rattle.short_row.proofs.numbers.combine.Goals as goal

pub loop-i-preserved : goal.loop-i-preserved
loop-i-preserved c = record {
  value = let made = combined_step c.args.a c.args.b c.args.r.now c.args.s.now c.requires.lengths c.loop-i.i (omega arith) c.loop-i.r c.in-Some.number (search rules) (search rules) in search (rules, made);
  short = All-set IsShort _ _ _ (search rules) c.loop-i.invariant.short;
}

pub returns-in_default-clause-value : goal.returns-in_default-clause-value
returns-in_default-clause-value c =
    let made : c.loop-i.r ≡ combined c.args.a c.args.r.now c.args.b c.args.s.now c.loop-i.i = search (rules, c.loop-i.invariant.value) in
    finished_combined c.args.a c.args.b c.args.r.now c.args.s.now c.loop-i.i c.loop-i.r c.requires.lengths (omega arith) made

pub returns-clause-value : goal.returns-clause-value
returns-clause-value c =
    let whole = finished_combined c.args.a c.args.b c.args.r.now c.args.s.now (length c.loop-i.r) c.loop-i.r c.requires.lengths (omega arith) (search (rules, c.loop-i.invariant.value)) in
    search (rules, whole)

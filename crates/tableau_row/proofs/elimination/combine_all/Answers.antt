use Rattle.tableau_row.proofs.Words.{arith, rules, All-set, Fits, combined_step, listed_now, listed_behind, combined_all}
use Rattle.tableau_row.proofs.elimination.combine_all.Goals as goal

pub exact_difference-requires : goal.exact_difference-requires
exact_difference-requires c =
    let now = listed_now c.args.a c.args.b c.args.r.now c.args.s.now c.requires.lengths c.loop-i.i (omega arith) c.loop-i.r (search rules) (search rules) in
    search (rules, now)

pub loop-i-preserved : goal.loop-i-preserved
loop-i-preserved c = record {
  listed = let behind = listed_behind c.args.a c.args.b c.args.r.now c.args.s.now c.requires.lengths c.loop-i.i (omega arith) (search rules) in search (rules, behind);
  value = let made = combined_step c.args.a c.args.b c.args.r.now c.args.s.now c.requires.lengths c.loop-i.i (omega arith) c.loop-i.r c.exact_difference.result (search rules) (search rules) in search (rules, made);
  fits = All-set Fits _ _ _ (search rules) c.loop-i.invariant.fits;
}

pub returns-clause-value : goal.returns-clause-value
returns-clause-value c = let whole = combined_all c.args.a c.args.b c.args.r.now c.args.s.now c.loop-i.i c.requires.lengths (omega arith) in search (rules, whole)

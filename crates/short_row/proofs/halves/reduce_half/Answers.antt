use Rattle.short_row.proofs.Words.{arith, rules, ◌≡◌, pos, length, get_or, All-set, IsShort, combined, combined_step}
use Rattle.short_row.proofs.Finished.{finished_combined}
use Rattle.short_row.proofs.Puts.{combined_kept}
use Rattle.short_row.proofs.halves.reduce_half.Goals as goal
use Rattle.short_row.proofs.halves.reduce_half.Goals.{then-s-i-ne0+else-not-is_half+else-not-is_half-2, else-s-i-ne0}

pub loop-i-preserved : goal.loop-i-preserved
loop-i-preserved c = elim c.if-s-i-ne0.branch [
  | then-s-i-ne0+else-not-is_half+else-not-is_half-2 w ↦ rw w.r-is (record {
    value = let made = combined_step (pos 1) c.args.b c.args.r.now c.args.s.now c.requires.terms.lengths c.loop-i.i (omega arith) c.loop-i.r w.half_difference.result (search rules) (search rules) in search (rules, made);
    short = All-set IsShort _ _ _ (search rules) c.loop-i.invariant.short;
  })
  | else-s-i-ne0 w ↦ rw w.r-is (record {
    value =
        let none : get_or c.args.s.now c.loop-i.i (pos 0) ≡ pos 0 = search rules in
        let kept = combined_kept c.args.b c.args.r.now c.args.s.now c.requires.terms.lengths c.loop-i.i (omega arith) c.loop-i.r (search rules) none in search (rules, kept);
    short = c.loop-i.invariant.short;
  })
]

pub returns-then-not-is_half-clause-value : goal.returns-then-not-is_half-clause-value
returns-then-not-is_half-clause-value c =
    let made : c.loop-i.r ≡ combined (pos 1) c.args.r.now c.args.b c.args.s.now c.loop-i.i = search (rules, c.loop-i.invariant.value) in
    finished_combined (pos 1) c.args.b c.args.r.now c.args.s.now c.loop-i.i c.loop-i.r c.requires.terms.lengths (omega arith) made

pub returns-clause-value : goal.returns-clause-value
returns-clause-value c =
    let whole = finished_combined (pos 1) c.args.b c.args.r.now c.args.s.now (length c.loop-i.r) c.loop-i.r c.requires.terms.lengths (omega arith) (search (rules, c.loop-i.invariant.value)) in
    search (rules, whole)

use Rattle.short_row.proofs.Words.{arith, rules, ◌≡◌, ◌<◌, sym, pos, length, All-set, IsShort, combined}
use Rattle.short_row.proofs.Finished.{finished_combined}
use Rattle.short_row.proofs.Reached.{made_all, made_before, made_behind, reached_first}
use Rattle.short_row.proofs.halves.reduce_listed.Goals as goal

pub loop-k-init : goal.loop-k-init
loop-k-init c = record {
  value = let first = sym (reached_first c.args.b c.args.r.now c.args.s.now c.requires.terms.lengths) in search (rules, first);
  short = c.requires.terms.row;
}

pub returns-then-not-is_half-clause-value : goal.returns-then-not-is_half-clause-value
returns-then-not-is_half-clause-value c =
    let less : c.loop-k.k < length c.args.nonzeros.now = omega (arith, c.loop-k-test.true, c.len-k-end.ensures) in
    let made : c.loop-k.r ≡ combined (pos 1) c.args.r.now c.args.b c.args.s.now c.place_in-i.result =
    made_before c.args.b c.args.r.now c.args.s.now c.args.nonzeros.now c.loop-k.k c.place_in-i.result c.requires.nonzeros less c.place_in-i.ensures.value c.requires.terms.lengths c.loop-k.r (search (rules, c.loop-k.invariant.value)) in
    finished_combined (pos 1) c.args.b c.args.r.now c.args.s.now c.place_in-i.result c.loop-k.r c.requires.terms.lengths (omega (arith, c.place_in-i.ensures.within, c.requires.terms.lengths)) made

pub loop-k-preserved : goal.loop-k-preserved
loop-k-preserved c = record {
  value =
      let less : c.loop-k.k < length c.args.nonzeros.now = omega (arith, c.loop-k-test.true, c.len-k-end.ensures) in
      let made =
      made_behind c.args.b c.args.r.now c.args.s.now c.args.nonzeros.now c.loop-k.k c.place_in-i.result c.requires.nonzeros less c.place_in-i.ensures.value c.requires.terms.lengths c.loop-k.r (search (rules, c.loop-k.invariant.value))
      c.half_difference.result (search rules) in
      search (rules, made);
  short = All-set IsShort _ _ _ (search rules) c.loop-k.invariant.short;
}

pub returns-clause-value : goal.returns-clause-value
returns-clause-value c =
    let made : c.loop-k.r ≡ combined (pos 1) c.args.r.now c.args.b c.args.s.now (length c.loop-k.r) =
    made_all c.args.b c.args.r.now c.args.s.now c.args.nonzeros.now c.loop-k.k (length c.loop-k.r) c.requires.nonzeros (omega (arith, c.loop-k-test.false, c.len-k-end.ensures)) (omega (arith, c.loop-k.auto.r, c.requires.terms.lengths)) c.loop-k.r (search (rules, c.loop-k.invariant.value)) in
    let whole = finished_combined (pos 1) c.args.b c.args.r.now c.args.s.now (length c.loop-k.r) c.loop-k.r c.requires.terms.lengths (omega arith) made in
    search (rules, whole)

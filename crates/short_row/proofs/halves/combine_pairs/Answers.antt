use Rattle.short_row.proofs.Words.{arith, rules, ◌≡◌, ◌+◌, pos, get_or, set, All-set, IsShort, combined_step}
use Rattle.std.proofs.Common.{◌*◌}
use Rattle.short_row.proofs.halves.combine_pairs.Goals as goal

pub loop-k-preserved : goal.loop-k-preserved
loop-k-preserved c =
    let a = c.args.by.of_row in
    let b = c.args.by.of_pivot in
    let i = 2 * c.loop-k.k in
    let now = c.loop-k.r in
    record {
      value =
          let one = combined_step a b c.args.r.now c.args.s.now c.requires.terms.lengths i (omega arith) now c.two_differences-first.result.0 (search rules) (search rules) in
          let other : get_or (set now i c.two_differences-first.result.0) (i + 1) (pos 0) ≡ get_or now (i + 1) (pos 0) = search rules in
          let two = combined_step a b c.args.r.now c.args.s.now c.requires.terms.lengths (i + 1) (omega arith) (set now i c.two_differences-first.result.0) c.two_differences-first.result.1 one (search (rules, other)) in
          search (rules, two);
      short = All-set IsShort _ _ _ (search rules) (All-set IsShort _ _ _ (search rules) c.loop-k.invariant.short);
    }

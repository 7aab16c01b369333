use Rattle.refuter.proofs.Words.{rules, arith, ◌≡◌, refl, ◌≤◌, ℕ, ℤ, Work, List, [], ◌∷◌, length, false, nat_eq, to_z, of_z}
use Rattle.std.specs.Int.{w128}
use Rattle.refuter.proofs.refuter.Refuter.refute_first.Goals as goal

some_of : (known : List (List ℤ)) → nat_eq (length known) 0 ≡ false → 1 ≤ length known
some_of [] e = absurd cc
some_of (c ∷ known) e = omega arith

same_work : (w between now : Work) (p c s : ℕ) → now ≡ record between { pivots = p; cuts = c; splits = s } → between.budget ≡ w.budget → p ≡ w.pivots → c ≡ w.cuts → s ≡ w.splits → now ≡ w
same_work w between now p c s e f g h i = rw (e, f, g, h, i) refl

pub returns-in-Err-Long-clause-gives : goal.returns-in-Err-Long-clause-gives
returns-in-Err-Long-clause-gives c =
    let before = c.counts-before in
    let same = same_work c.args.work.now c.refute_kept.new.work c.back_to.new.self before.result.pivots before.result.cuts before.result.splits c.back_to.ensures c.refute_kept.ensures.gives.counted.budget before.ensures.pivots before.ensures.cuts before.ensures.splits in
    let cast : to_z w128 (of_z w128 c.args.first) ≡ c.args.first = search rules in
    rw (same, cast) at c.refute_all-in-Err-Long.ensures.gives

pub refute_kept-requires-clause-some_known : goal.refute_kept-requires-clause-some_known
refute_kept-requires-clause-some_known c = some_of c.args.known.now (search rules)

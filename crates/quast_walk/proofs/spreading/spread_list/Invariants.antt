use Rattle.quast_walk.proofs.Words.{◌≡◌, map, take, spread_reduced, IsOwnComponent}
use Rattle.std.specs.Prelude.{All}
use Rattle.quast_walk.proofs.spreading.spread_list.Given as goal

abbrev pub invariant-loop-i : goal.invariant-loop-i
invariant-loop-i l = (l.made.items ≡ map (spread_reduced l.m l.n) (take l.i l.components)) × All IsOwnComponent l.made.items

use Rattle.std.proofs.Common.{rules, arith, take}
use Rattle.std.proofs.lemmas.List.{length-take-le}
use Rattle.short_numbers.proofs.Places.{nonzeros_length, more_zero, more_nonzero}
use Rattle.short_numbers.proofs.nonzeros.nonzeros_of.Goals as goal
use Rattle.short_numbers.proofs.nonzeros.nonzeros_of.Goals.{then-numbers-i-ne0+else-not-is_half, else-numbers-i-ne0}

pub push-requires-clause-count : goal.push-requires-clause-count
push-requires-clause-count c =
    let few = nonzeros_length (take c.loop-i.i c.split_at.result.1.now) in
    let size = length-take-le c.loop-i.i c.split_at.result.1.now (omega arith) in
    rw c.loop-i.invariant.list (omega (arith, few, size))

pub loop-i-preserved : goal.loop-i-preserved
loop-i-preserved c = elim c.if-numbers-i-ne0.branch [
  | then-numbers-i-ne0+else-not-is_half w ↦ rw (w.found-is, w.push.ensures) (more_nonzero c.split_at.result.1.now c.loop-i.i c.loop-i.found c.loop-i-test.true c.loop-i.invariant (search rules) (search rules))
  | else-numbers-i-ne0 w ↦ rw w.found-is (more_zero c.split_at.result.1.now c.loop-i.i c.loop-i.found c.loop-i-test.true c.loop-i.invariant (search rules))
]

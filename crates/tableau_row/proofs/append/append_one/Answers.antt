use Rattle.tableau_row.proofs.Words.{arith, ◌∙◌, ap, ◌++◌, [], ◌∷◌, ℤ, to_z-of_z, w128}
use Rattle.tableau_row.proofs.append.append_one.Goals as goal

pub returns : goal.returns
returns c = record {
  items = c.push_reserved.ensures.items ∙ ap (λ (z : ℤ). c.args.numbers.now.items ++ z ∷ []) (to_z-of_z w128 c.args.number c.ranges.number);
  count = omega (arith, c.push_reserved.ensures.len);
  room = omega (arith, c.push_reserved.ensures.capacity);
}

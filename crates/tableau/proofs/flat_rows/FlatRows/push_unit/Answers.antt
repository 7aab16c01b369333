use Rattle.tableau.proofs.Words.{rules, arith, ap, ◌<◌, common_steps, KeptRows}
use Rattle.tableau.proofs.Flat.{with_unit}
use Rattle.tableau.proofs.flat_rows.FlatRows.push_unit.Goals as goal

pub invariant_of-self : goal.invariant_of-self
invariant_of-self c =
    let column : c.args.c < c.self.inside.unknowns = rw (ap (λ (t : KeptRows). t.unknowns) c.self.view_is) (search rules) in
    let room = c.self.invariant.1 in
    let whole = with_unit c.self.inside.unknowns c.self.inside.width c.args.c c.self.inside.numbers.items c.self.inside.kept.items c.self.invariant.0 column in
    (rw c.append_kept.ensures.items whole, record { few = grind (arith, common_steps); kept = search rules; numbers = search rules })

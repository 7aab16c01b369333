use Rattle.tableau.proofs.Words.{rules, arith, common_steps}
use Rattle.tableau.proofs.Flat.{flat_same}
use Rattle.tableau.proofs.flat_rows.FlatRows.copy.Goals as goal

pub invariant_of-copy : goal.invariant_of-copy
invariant_of-copy c =
    let s = c.self.inside in
    let t = c.copy.inside in (
      flat_same t.unknowns s.unknowns t.width s.width c.append_entries.new.numbers.items s.numbers.items c.append_all_kept.new.kept.items s.kept.items (search rules) (search rules) (search rules) (search rules) c.self.invariant.0,
      record { few = grind (arith, common_steps); kept = search rules; numbers = search rules },
    )

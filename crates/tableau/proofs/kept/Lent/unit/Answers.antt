use Rattle.tableau.proofs.Words.{◌∙◌, subst, sym, rules, IsShortRow, unit_short}
use Rattle.tableau.proofs.UnitRun.{lent_unit}
use Rattle.tableau.proofs.kept.Lent.unit.Goals as goal

pub new-requires : goal.new-requires
new-requires c =
    let s = c.args.self.now in
    record {
      short = λ short. subst IsShortRow (sym (lent_unit s.unknowns s.width c.args.c c.split_at-2.result.0.now c.split_at-4.result.0.now c.requires.column (search rules) (search rules))) (unit_short s.unknowns s.width c.args.c);
    }

pub returns : goal.returns
returns c = c.new.ensures.value ∙ lent_unit c.args.self.now.unknowns c.args.self.now.width c.args.c _ _ c.requires.column (search rules) (search rules)

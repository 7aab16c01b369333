use Rattle.lane_rows.proofs.Words.{rules, ◌∙◌, sym, turned_none, turned_made}
use Rattle.lane_rows.proofs.turning.turned_row.Goals as goal

pub returns-then-a-l-clause-made : goal.returns-then-a-l-clause-made
returns-then-a-l-clause-made c = turned_none _ _ _ _ (c.requires.row.long ∙ sym c.requires.pivot.long) (search rules) (search rules)

pub returns-clause-made : goal.returns-clause-made
returns-clause-made c = turned_made _ c.args.p.now c.args.lane c.args.row.now c.in_ok-z.z _ (search (rules, c.in_ok-z.ensures.value)) (search rules)

use Rattle.node_rows.proofs.Words.{rules, IsScaled, all_taken, scaled_more}
use Rattle.node_rows.proofs.basis.is_multiple.Goals as goal

pub loop-j-preserved : goal.loop-j-preserved
loop-j-preserved c = scaled_more _ _ _ c.args.rows.now.rows c.loop-j.j (search rules) c.loop-j.invariant (search rules)

pub returns : goal.returns
returns c = λ _. all_taken (IsScaled c.args.rows.now.unknowns c.args.rows.now.width c.args.scale) c.args.rows.now.rows c.loop-j.j (search rules) (search (rules, c.loop-j.invariant))

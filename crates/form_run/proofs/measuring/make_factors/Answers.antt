use Rattle.form_run.proofs.Words.{rules, IsScaled, all_taken, scaled_more, ap, factors_of, take_all, arith}
use Rattle.form_run.proofs.Factors.{factors_more}
use Rattle.form_run.proofs.measuring.make_factors.Goals as goal

pub loop-j-preserved : goal.loop-j-preserved
loop-j-preserved c = record {
  values = factors_more _ c.args.rows.now.rows c.loop-j.j c.loop-j.factors.items c.push.new.numbers.items c.in-Some.factor (search rules) c.loop-j.invariant.values (search rules) (search rules);
  rows = scaled_more _ _ _ c.args.rows.now.rows c.loop-j.j (search rules) c.loop-j.invariant.rows (search rules);
}

pub returns-clause-values : goal.returns-clause-values
returns-clause-values c = λ _. search (rules, ap (factors_of c.args.scale) (take_all c.loop-j.j c.args.rows.now.rows (omega arith)), c.loop-j.invariant.values)

pub returns-clause-rows : goal.returns-clause-rows
returns-clause-rows c = λ _. all_taken (IsScaled c.args.rows.now.unknowns 0 c.args.scale) c.args.rows.now.rows c.loop-j.j (search rules) (search (rules, c.loop-j.invariant.rows))

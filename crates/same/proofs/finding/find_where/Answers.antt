use Rattle.same.proofs.Words.{point, by_run, ◌++◌, ◌∷◌, []}
use Rattle.same.proofs.SameSteps.{by_point}
use Rattle.same.proofs.finding.find_where.Goals as goal

pub returns-clause-finds : goal.returns-clause-finds
returns-clause-finds c = λ zs v next checked same.
    let k = c.args.context.now in
    rw (rw c.in_ok-condition.was at checked, ← (rw c.in_ok-condition.was at same)) (by_point c.args.reading.now.parameters next c.find_here-found.new.work c.find_here-found.result (by_run (point k.width (k.forms ++ c.in_ok-condition.condition ∷ [])) c.args.work.now) (rw (c.enter.ensures.width, c.enter.ensures.forms) at c.find_here-found.ensures))

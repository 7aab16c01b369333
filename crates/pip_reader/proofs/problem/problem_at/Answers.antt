use Rattle.pip_reader.proofs.Words.{problem_of, err_from_is_err_and}
use Rattle.pip_reader.proofs.Stepwise.{whole, problem_is_by_steps}
use Rattle.pip_reader.proofs.problem.problem_at.Goals as goal

pub from_parts-problem-requires : goal.from_parts-problem-requires
from_parts-problem-requires c = (whole c.args.bytes.now c.args.place (problem_of c.in_ok-parts.parts) c.in_ok-parts.after c.requires c.in_ok-parts.ensures.0).0

pub returns-clause-group : goal.returns-clause-group
returns-clause-group c =
    rw c.from_parts-problem.ensures (whole c.args.bytes.now c.args.place (problem_of c.in_ok-parts.parts) c.in_ok-parts.after c.requires c.in_ok-parts.ensures.0).1

pub returns-in_err-parts-clause-reads : goal.returns-in_err-parts-clause-reads
returns-in_err-parts-clause-reads c =
    let p = err_from_is_err_and c.from_residual.result c.from_residual.ensures.1 in
    rw (p.1, p.2, problem_is_by_steps c.args.bytes.now c.args.place) c.in_err-parts.ensures

pub returns-clause-reads : goal.returns-clause-reads
returns-clause-reads c = rw (c.from_parts-problem.ensures, problem_is_by_steps c.args.bytes.now c.args.place) c.in_ok-parts.ensures

use Rattle.refuter.proofs.KeptFirst.{none-first}
use Rattle.solve_certified.proofs.refutation.Scope.refute_once.Goals as goal

pub refute-steps-requires-clause-first : goal.refute-steps-requires-clause-first
refute-steps-requires-clause-first c = none-first c.new-refuter.result c.args.known.now.forms c.new-refuter.ensures

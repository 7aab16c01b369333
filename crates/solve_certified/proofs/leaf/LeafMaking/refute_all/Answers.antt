use Rattle.solve_certified.proofs.Words.{rules}
use Rattle.refuter.proofs.KeptFirst.{none-first}
use Rattle.solve_certified.proofs.leaf.LeafMaking.refute_all.Goals as goal

pub refute_each-requires-clause-before : goal.refute_each-requires-clause-before
refute_each-requires-clause-before c = record { width = search rules; behind = record { forms = search rules } }

pub refute_each-requires-clause-first : goal.refute_each-requires-clause-first
refute_each-requires-clause-first c = none-first _ _ c.forget.ensures

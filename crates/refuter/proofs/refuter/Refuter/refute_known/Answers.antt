use Rattle.refuter.proofs.Words.{rules, sym, subst, KeptRun, AreFirst}
use Rattle.refuter.proofs.KeptFirst.{on_ok}
use Rattle.refuter.proofs.refuter.Refuter.refute_known.Goals as goal

pub refute_first-requires-clause-first : goal.refute_first-requires-clause-first
refute_first-requires-clause-first c =
    record { width = c.in_ok-recall_first.ensures.width (search rules); first = c.in_ok-recall_first.ensures.first }

pub returns-clause-first : goal.returns-clause-first
returns-clause-first c =
    on_ok c.refute_first.result (AreFirst c.refute_first.new.self c.args.known.now)
    (subst (λ (k : KeptRun). AreFirst k c.args.known.now) (sym c.refute_first.ensures.kept) c.in_ok-recall_first.ensures.first)

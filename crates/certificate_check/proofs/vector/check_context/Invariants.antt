use Rattle.certificate_check.proofs.Words.{◌≡◌, drop, check_context}
use Rattle.certificate_check.proofs.vector.check_context.Given as goal

abbrev pub invariant-loop-row : goal.invariant-loop-row
invariant-loop-row l = check_context l.rows l.vector ≡ check_context (drop l.row-index l.rows) l.vector

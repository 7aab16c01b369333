use Rattle.tableau.proofs.Words.{subst, sym, IsSpare}
use Rattle.tableau.proofs.tableau.Tableau.round_constant.Goals as goal

pub round-requires-clause-spare : goal.round-requires-clause-spare
round-requires-clause-spare c = subst (IsSpare c.self.inside.rows c.self.inside.next) (sym c.as_slice.ensures.value) c.self.invariant

pub invariant_of-self : goal.invariant_of-self
invariant_of-self c = subst (IsSpare c.self.inside.rows c.round.new.next) c.as_slice.ensures.value c.round.ensures.spare

pub invariant_of-self-2 : goal.invariant_of-self-2
invariant_of-self-2 c =
    rw (c.swap.ensures.x_after, c.swap.ensures.y_after) (subst (IsSpare c.round.new.next c.self.inside.rows) c.as_slice.ensures.value c.in_ok-round.ensures.swapped)

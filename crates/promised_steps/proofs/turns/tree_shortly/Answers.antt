use Rattle.promised_steps.proofs.turns.tree_shortly.Goals as goal

pub returns : goal.returns
returns c = record { gives = c.tree_shortly.ensures.gives; none = c.tree_shortly.ensures.none }

use Rattle.node_turn.proofs.turn.act.Goals as goal

pub returns-in-MinusAt-clause-gives : goal.returns-in-MinusAt-clause-gives
returns-in-MinusAt-clause-gives c = rw c.in-MinusAt.is (c.pivot_turn.ensures.gives c.args.path.now)

pub returns-in-MinusAt-clause-turn : goal.returns-in-MinusAt-clause-turn
returns-in-MinusAt-clause-turn c = c.pivot_turn.ensures.turn c.args.path.now _

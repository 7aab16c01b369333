use Rattle.pip_solve.proofs.node.follow.Goals as goal

pub returns-in-Below-clause-gives : goal.returns-in-Below-clause-gives
returns-in-Below-clause-gives c = rw c.in-Below.is c.define_below.ensures.gives

use Rattle.promised.proofs.problems.solve.Goals as goal

pub returns : goal.returns
returns c = record { gives = c.solve.ensures.gives; right = c.solve.ensures.right; reached = c.solve.ensures.reached; well_formed = c.solve.ensures.well_formed; scope = c.solve.ensures.scope }

use Rattle.promised.proofs.walks.restrict.Goals as goal

pub returns : goal.returns
returns c = record { gives = c.restrict.ensures.gives; right = c.restrict.ensures.right; refusal = c.restrict.ensures.refusal; well_formed = c.restrict.ensures.well_formed; scope = c.restrict.ensures.scope }

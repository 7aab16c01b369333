use Rattle.promised.proofs.walks.same.Goals as goal

pub returns : goal.returns
returns c = record { gives = c.same.ensures.gives; right = c.same.ensures.right; refusal = c.same.ensures.refusal; scope = c.same.ensures.scope }

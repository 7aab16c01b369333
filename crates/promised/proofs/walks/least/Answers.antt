use Rattle.promised.proofs.walks.least.Goals as goal

pub returns : goal.returns
returns c = record { gives = c.least.ensures.gives; right = c.least.ensures.right; refusal = c.least.ensures.refusal; made = c.least.ensures.made }

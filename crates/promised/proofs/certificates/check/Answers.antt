use Rattle.promised.proofs.certificates.check.Goals as goal

pub returns : goal.returns
returns c = record { gives = c.check.ensures.gives; right = c.check.ensures.right }

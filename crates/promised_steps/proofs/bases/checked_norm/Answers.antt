use Rattle.promised_steps.proofs.bases.checked_norm.Goals as goal

pub returns : goal.returns
returns c = record { most = c.checked_norm.ensures.most; norm = c.checked_norm.ensures.norm; bound = c.checked_norm.ensures.bound; row = c.checked_norm.ensures.row }

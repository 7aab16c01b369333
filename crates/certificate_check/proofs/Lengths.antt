-- Lengths of the forms of a path.
use Rattle.pip_model.proofs.Forms.{length-opposite}

pub ruleset path_lengths = (length-opposite)

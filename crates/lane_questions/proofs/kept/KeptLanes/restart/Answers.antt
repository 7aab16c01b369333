use Rattle.lane_questions.proofs.Words.{rules, refl}
use Rattle.lane_questions.proofs.KeptRuns.{begins}
use Rattle.lane_questions.proofs.kept.KeptLanes.restart.Goals as goal

pub returns : goal.returns
returns c ok = begins c.args.places c.requires _ (search rules) refl

use Rattle.lane_rows.proofs.Words.{rules, refl, scaled_one}
use Rattle.lane_rows.proofs.turning.over_scale.Goals as goal

pub returns-then-l-eq1-clause-value : goal.returns-then-l-eq1-clause-value
returns-then-l-eq1-clause-value c = scaled_one _ _ _ (search rules) refl

-- The first row that is below 0.
use Rattle.std.specs.Prelude.{ℕ, ◌+◌, Option, Some, None, List, [], ◌∷◌, if◌then◌else◌}
use Rattle.pip_model.specs.Numbers.{is_nonneg}
use Rattle.pip_model.specs.Forms.{constant}
use Rattle.pip_model.specs.Rows.{Row}

-- the first row, from place i on, whose constant is below 0
abbrev pub negative_from : ℕ → List Row → Option ℕ
negative_from i [] = None
negative_from i (r ∷ rs) = if is_nonneg (constant r.constant) then negative_from (i + 1) rs else Some i

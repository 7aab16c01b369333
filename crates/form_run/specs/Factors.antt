-- What a scale has of the denominators of rows.
use Rattle.std.specs.Prelude.{ℤ, List, map}
use Rattle.pip_model.specs.Numbers.{floor_div}
use Rattle.pip_model.specs.Rows.{Row}

abbrev pub factors_of : ℤ → List Row → List ℤ
factors_of L rows = map (λ (r : Row). floor_div L r.den) rows

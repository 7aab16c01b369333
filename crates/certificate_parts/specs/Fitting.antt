-- Numbers of a certificate that fit.
use Rattle.std.specs.Prelude.{ℤ, Bool, ◌&&◌, List}
use Rattle.std.specs.List.{list_all}
use Rattle.pip_model.specs.Numbers.{fits}

-- each index and each multiplier
abbrev pub terms_fit : List (ℤ × ℤ) → Bool
terms_fit ts = list_all (λ t. fits t.0 && fits t.1) ts

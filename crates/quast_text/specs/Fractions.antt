-- Fractions of a component's text.
use Rattle.std.specs.Prelude.{ℕ, ℤ, pos, ◌≤ℤ◌, ◌*ℤ◌, List, Ok}
use Rattle.pip_model.specs.Numbers.{floor_div}
use Rattle.pip_model.specs.declared.Kind.TheVariants.{LeftRow, RightRow}
use Rattle.pip_model.specs.Tokens.{token}
use Rattle.pip_model.specs.Reading.{Reads, ◌>>=◌, expect}
use Rattle.pip_model.specs.TreeText.{fraction_of, fractions}
use Rattle.affine_forms.specs.Checks.{Fits}

-- the parts fit, and the denominator is at least 1
pub record IsFraction (f : ℤ × ℤ) : Type 0 where
  pub positive : pos 1 ≤ℤ f.1
  pub numerator : Fits f.0
  pub denominator : Fits f.1

-- the number or fraction that is the next token
abbrev pub next_fraction : List ℕ → ℕ → Reads (ℤ × ℤ)
next_fraction bytes place = fraction_of (token bytes place).kind (token bytes place).start (token bytes place).after

-- so many of them between row brackets
unfoldable pub bracketed_fractions : List ℕ → ℕ → ℕ → Reads (List (ℤ × ℤ))
bracketed_fractions bytes n place = do
  first ← expect bytes LeftRow place
  fs ← fractions bytes n first
  after ← expect bytes RightRow fs.1
  Ok (fs.0, after)

-- the numerator over the denominator d, a multiple of the fraction's
abbrev pub numerator_of : ℤ → ℤ × ℤ → ℤ
numerator_of d f = f.0 *ℤ floor_div d f.1

-- Words of the contracts on printing.
use Rattle.std.specs.Prelude.{◌≡◌, ℕ, ℤ, List, ◌++◌, codes, Result, OnOk}
use Rattle.std.specs.Fmt.{signed_decimal}

-- a blank and a number
abbrev pub spell_entry : ℤ → List ℕ
spell_entry c = codes " " ++ signed_decimal c

-- where nothing is refused, the text stands behind the old bytes
abbrev pub Appends : {X E : Type 0} → List ℕ → List ℕ → List ℕ → Result X E → Type 0
Appends text old new result = OnOk result (new ≡ old ++ text)

-- the new bytes begin with the old ones
pub record Begins (old new : List ℕ) : Type 0 where
  pub rest : List ℕ
  pub is : new ≡ old ++ rest

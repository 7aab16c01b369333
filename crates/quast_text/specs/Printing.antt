-- Words of the contracts on printing.
use Rattle.std.specs.Prelude.{◌≡◌, ◌-◌, ℕ, ℤ, List, [], ◌++◌, if◌then◌else◌, length, codes, Some, Ok}
use Rattle.std.specs.Fmt.{signed_decimal}
use Rattle.pip_model.specs.Numbers.{floor_div, same_number}
use Rattle.pip_model.specs.TreeText.{Commented, read_answer, spell_fraction, spell_fractions}
use Rattle.pip_model.specs.Tree.{Component}

-- a stroke and d over its divisor, nothing where that is 1
abbrev pub spell_denominator : ℤ → ℤ → List ℕ
spell_denominator d g = if same_number g d then [] else codes "/" ++ signed_decimal (floor_div d g)

-- a blank and a number over d
abbrev pub spell_term : ℤ → ℤ → List ℕ
spell_term d c = codes " " ++ spell_fraction c d

-- the line of a component
abbrev pub spell_component : Component → List ℕ
spell_component c = codes "#[" ++ spell_fractions c.den c.form ++ codes "]\n"

-- the text is read as this answer over np parameters, whatever stands behind it; the place after it is that of its
-- last byte
abbrev pub IsReadBack : List ℕ → ℕ → Commented → Type 0
IsReadBack text np s = (rest : List ℕ) → read_answer (text ++ rest) 0 np ≡ Ok (Some (s, length text - 1))

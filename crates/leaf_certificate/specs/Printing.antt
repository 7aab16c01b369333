-- Words of the contracts on printing.
use Rattle.std.specs.Prelude.{◌≡◌, ◌-◌, ℕ, ℤ, Bool, List, ◌++◌, length, codes, Option, Some, Ok}
use Rattle.std.specs.Fmt.{signed_decimal}
use Rattle.pip_model.specs.Certificate.{Step, Refutation, LeafProofs, Certificate, spell_terms, spell_steps, spell_refutations, groups, format, spell_vector, read_certificate}

-- a blank and an index, a blank and its multiplier
abbrev pub spell_term : ℤ × ℤ → List ℕ
spell_term t = codes " " ++ signed_decimal t.0 ++ codes " " ++ signed_decimal t.1

abbrev pub spell_step : Step → List ℕ
spell_step s = codes "(" ++ signed_decimal s.divisor ++ spell_terms s.terms ++ codes ")"

-- the line of a refutation
abbrev pub spell_refutation : Refutation → List ℕ
spell_refutation r = codes "(" ++ spell_steps r ++ codes ")\n"

-- the lines of a leaf
abbrev pub spell_leaf : Bool → LeafProofs → List ℕ
spell_leaf shares l = codes "(\n" ++ spell_refutations (groups shares l) ++ codes ")\n"

-- the line of the format and the vector
abbrev pub spell_head : Bool → Option (List ℤ) → List ℕ
spell_head shares v =
    codes "(certificate " ++ signed_decimal (format shares) ++ codes " " ++ spell_vector v ++ codes "\n"

-- the text is read as this certificate, whatever stands behind it; the place after it is that of its last byte
abbrev pub IsReadBack : List ℕ → Certificate → Type 0
IsReadBack text c = (rest : List ℕ) → read_certificate (text ++ rest) 0 ≡ Ok (Some (c, length text - 1))

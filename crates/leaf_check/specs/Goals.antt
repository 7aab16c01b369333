-- Lists of forms in which goals differ.
use Rattle.std.specs.Prelude.{◌-◌, ℤ, List, length, take}

-- all forms but the last
abbrev pub without_last : List (List ℤ) → List (List ℤ)
without_last forms = take (length forms - 1) forms

-- The vector of a path: its parameters, and then its quotients.
use Rattle.std.specs.Prelude.{ℕ, ◌+◌, ◌-◌, ◌^◌, ◌<◌, ◌≤◌, pos, List, [], ◌∷◌, length, slice_index_or, All, ⊤}
use Rattle.pip_model.specs.Cuts.{Quotient}
use Rattle.affine_forms.specs.Forms.{IsResidue}

-- how many parameters there are, and the quotients in the order of their places
pub record Scope : Type 0 where
  pub params : ℕ
  pub quotients : List Quotient

-- the number of places
abbrev pub size : Scope → ℕ
size s = s.params + length s.quotients

-- the quotient at place i
abbrev pub quotient_at : Scope → ℕ → Quotient
quotient_at s i = slice_index_or s.quotients (i - s.params) (record { form = []; den = pos 1 })

-- a quotient of a form over at most w places, with entries in 0 .. d - 1
pub record IsQuotient (w : ℕ) (k : Quotient) : Type 0 where
  pub width : length k.form ≤ w + 1
  pub entries : All (IsResidue k.den) k.form

-- each of the quotients, of which the first has place i, stands over the places before its own
abbrev pub AreQuotients : ℕ → List Quotient → Type 0
AreQuotients i [] = ⊤
AreQuotients i (k ∷ ks) = IsQuotient i k × AreQuotients (i + 1) ks

pub record IsScope (s : Scope) : Type 0 where
  pub size : size s < 2 ^ 64
  pub quotients : AreQuotients s.params s.quotients

-- Affine forms as lists of numbers, the last of them the constant.
use Rattle.std.specs.Prelude.{◌≡◌, ◌+◌, ◌<◌, ℕ, ℤ, pos, ◌+ℤ◌, ◌≤ℤ◌, ◌<ℤ◌, neg_ℤ, List, length, All}
use Rattle.pip_model.specs.Numbers.{floor_mod}
use Rattle.affine_forms.specs.Checks.{Fits}

-- at least one number, and each fits
pub record IsForm (entries : List ℤ) : Type 0 where
  pub some : 0 < length entries
  pub fits : All Fits entries

-- the least multiple of d from x on
abbrev pub raised : ℤ → ℤ → ℤ
raised d x = x +ℤ floor_mod (neg_ℤ x) d

-- x lies in 0 .. d - 1
pub record IsResidue (d x : ℤ) : Type 0 where
  pub low : pos 0 ≤ℤ x
  pub high : x <ℤ d

-- each form has so many coefficients and a constant
abbrev pub HaveWidth : ℕ → List (List ℤ) → Type 0
HaveWidth w forms = All (λ c. length c ≡ w + 1) forms

-- a width and forms, as they are seen
pub record FormsOfWidth : Type 0 where
  pub width : ℕ
  pub forms : List (List ℤ)

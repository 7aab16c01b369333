-- The row of a form.
use Rattle.tableau.proofs.Words.{◌≡◌, refl, ap, ℕ, ◌+◌, ℤ, pos, List, ◌∷◌, length, arith, All, take-append-drop, length-drop, length-take-le, All-take, All-drop, ints, Fits, form_row, numbers_of, IsRow, IsShort, IsShortRow}

pub form_numbers : (n : ℕ) (f : List ℤ) → numbers_of (form_row n f) ≡ pos 1 ∷ f
form_numbers n f = ap (λ (xs : List ℤ). pos 1 ∷ xs) (take-append-drop n f)

pub form_fits : (n w : ℕ) (f : List ℤ) → length f ≡ n + w + 1 → All Fits f → IsRow n w (form_row n f)
form_fits n w f e h = record {
  positive = omega (arith, ints);
  den_fits = refl;
  coefs = length-take-le n f (omega (arith, e));
  constant = simp length-drop (omega (arith, e));
  coefs_fit = All-take Fits n f h;
  constant_fit = All-drop Fits n f h;
}

pub form_short : (n : ℕ) (f : List ℤ) → All IsShort f → IsShortRow (form_row n f)
form_short n f h = record { den = omega arith; coefs = All-take IsShort n f h; constant = All-drop IsShort n f h }

-- What a step asks, of rows of one size, and what it leaves, from what its parts leave.
use Rattle.row_laws.proofs.Words.{◌≡◌, refl, sym, subst, ◌∙◌, ℕ, ◌-◌, ◌<◌, pos, ◌≤ℤ◌, Bool, length, arith, entry, Row, eliminated, IsRow, IsOwnRow, IsReduced, IsShortRow, IsPivotRow, IsElimination, MakesRow, IsMadeReduced}
use Rattle.row_laws.proofs.Numbers.{row_over}
use Rattle.row_laws.proofs.Substituting.{eliminated_reduced}

pub own_row : (n w : ℕ) (r : Row) → IsRow n w r → IsOwnRow r
own_row n w r h = record {
  positive = h.positive;
  den_fits = h.den_fits;
  coefs = refl;
  constant = omega (arith, h.constant);
  coefs_fit = h.coefs_fit;
  constant_fit = h.constant_fit;
}

pub pivot_row : (n w c : ℕ) (p : Row) → IsRow n w p → c < n → pos 1 ≤ℤ entry p.coefs c → IsPivotRow p c
pivot_row n w c p h column positive = record { row = own_row n w p h; column = omega (arith, h.coefs, column); positive = positive }

pub elimination : (n w c : ℕ) (p r : Row) → IsRow n w p → IsRow n w r → c < n → pos 1 ≤ℤ entry p.coefs c → IsElimination p c r
elimination n w c p r hp hr column positive = record {
  pivot = pivot_row n w c p hp column positive;
  row = own_row n w r hr;
  coefs = hr.coefs ∙ sym hp.coefs;
  constant = hr.constant ∙ sym hp.constant;
}

-- the pivot's row over the columns and places of the other
pub pivot_over : (c : ℕ) (p r : Row) → IsElimination p c r → IsRow (length r.coefs) (length r.constant - 1) p
pivot_over c p r h = record {
  positive = h.pivot.row.positive;
  den_fits = h.pivot.row.den_fits;
  coefs = sym h.coefs;
  constant = sym h.constant ∙ h.row.constant;
  coefs_fit = h.pivot.row.coefs_fit;
  constant_fit = h.pivot.row.constant_fit;
}

-- of row a a row is made, where a is row r and the wanted row has no common divisor
pub made_reduced : (f : Row → Row) (r a made : Row) (known : Bool) → MakesRow a (f a) known made → a ≡ r → IsReduced (f r) → IsMadeReduced r known (f r)
made_reduced f r a made known h e one =
    let here : MakesRow r (f r) known made = subst (λ (x : Row). MakesRow x (f x) known made) e h in
    record {
      row = λ n w given. row_over n w r made (f r) r.coefs r.constant refl refl here.value here.row given;
      reduced = one;
      short = λ s. subst IsShortRow here.value (here.short s);
    }

pub reduced_by : (c : ℕ) (p r : Row) → IsElimination p c r → IsReduced (eliminated p c r)
reduced_by c p r h = eliminated_reduced _ _ c p r h.row h.pivot.positive

-- a row is made of one that is made of row r
pub made_further : (r half wanted : Row) (one two : Bool) → MakesRow r half one half → IsMadeReduced half two wanted → IsMadeReduced r two wanted
made_further r half wanted one two h k = record {
  row = λ n w given. k.row n w (row_over n w r half half r.coefs r.constant refl refl refl h.row given);
  reduced = k.reduced;
  short = k.short;
}

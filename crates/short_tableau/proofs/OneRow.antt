-- One row, whose constant form is over no places.
use Rattle.short_tableau.proofs.Words.{◌≡◌, sym, ap, ◌∙◌, subst, ℕ, ℤ, pos, List, [], ◌∷◌, length, map, All, arith, entry, eliminated, eliminated_none, row_at, All-head, Row, IsCandidate, unit_row, row_of_numbers, numbers_of, row_size, IsShortReduced, IsPivot, places_of, numbers_again}
use Rattle.short_row.specs.Put.{IsTurning}

pub no_places : (n : ℕ) (zs : List ℤ) → length zs ≡ row_size n → places_of n zs ≡ 0
no_places n zs e = omega (arith, e)

-- these are the numbers of a pivot's row and of a row that it is put into
pub is_turning : (n : ℕ) (p : List ℤ) (c : ℕ) (now : List ℤ) → length p ≡ row_size n → length now ≡ row_size n → IsShortReduced n 0 (row_of_numbers n now) → IsPivot n 0 (row_of_numbers n p) c
    → IsTurning n p c now
is_turning n p c now long size row pivot =
    let none : places_of n now ≡ 0 = no_places n now size in
    record {
      size = long ∙ sym size;
      some = omega (arith, size);
      row = subst (λ (m : ℕ). IsShortReduced n m (row_of_numbers n now)) (sym none) row;
      pivot = subst (λ (m : ℕ). IsPivot n m (row_of_numbers n p) c) (sym none) pivot;
    }

-- a row of no places, where it is one of as many as there are
pub over_no_places : (n : ℕ) (zs : List ℤ) (r : Row) → length zs ≡ row_size n → IsShortReduced n (places_of n zs) r → IsShortReduced n 0 r
over_no_places n zs r size h = subst (λ (m : ℕ). IsShortReduced n m r) (no_places n zs size) h

-- the row of column c
pub unit_made : (n c : ℕ) (before : List ℤ) (made : Row) → length before ≡ row_size n → made ≡ unit_row n (places_of n before) c → made ≡ unit_row n 0 c
unit_made n c before made size e = e ∙ ap (λ (m : ℕ). unit_row n m c) (no_places n before size)

pub unit_numbers : (n c : ℕ) (before now : List ℤ) → length before ≡ row_size n → length now ≡ length before → row_of_numbers n now ≡ unit_row n (places_of n before) c
    → now ≡ numbers_of (unit_row n 0 c)
unit_numbers n c before now size same e = sym (numbers_again n now (omega (arith, size, same))) ∙ ap numbers_of (unit_made n c before (row_of_numbers n now) size e)

-- one row that is 0 in the column stays
pub stays_alone : (n w : ℕ) (p : Row) (c : ℕ) (rows : List Row) → length rows ≡ 1 → IsShortReduced n w p → IsCandidate n p c → All (IsShortReduced n w) rows → entry (row_at rows 0).coefs c ≡ pos 0
    → rows ≡ map (eliminated p c) rows
stays_alone n w p c [] e hp at all none = absurd (omega (arith, e))
stays_alone n w p c (r ∷ []) e hp at all none =
    let h : IsShortReduced n w r = All-head (IsShortReduced n w) r [] all in
    ap (λ (x : Row). x ∷ []) (eliminated_none n w p c r hp.row h.row at.positive none h.reduced)
stays_alone n w p c (r ∷ q ∷ rs) e hp at all none = absurd (omega (arith, e))

-- The rows of the columns.
use Rattle.scaled_laws.proofs.Words.{◌≡◌, ◌∙◌, refl, ap, sym, ℕ, ◌+◌, ◌-◌, ◌<◌, ℤ, pos, arith, List, take, drop, replicate, drop-set-lt, drop-replicate, take-replicate, take-set-lt, slice_set, divided, unit_row, row_over, row_size, unit_numbers}
use Rattle.form_laws.proofs.RowLaws.{divided_whole}

pub unit_is : (n w c : ℕ) → c < n → divided (row_over n (pos 1) (unit_numbers (row_size n w) c)) ≡ unit_row n w c
unit_is n w c h =
    sym (divided_whole (pos 1) (take n (unit_numbers (row_size n w) c)) (drop n (unit_numbers (row_size n w) c)) refl)
    ∙ rw (coefs, places) refl
  where
    behind : row_size n w - n ≡ w + 1
    behind = omega arith

    coefs : take n (unit_numbers (row_size n w) c) ≡ slice_set (replicate n (pos 0)) c (pos 1)
    coefs = take-set-lt n (replicate (row_size n w) (pos 0)) c (pos 1) h ∙ ap (λ (zs : List ℤ). slice_set zs c (pos 1)) (take-replicate n (row_size n w) (pos 0) (omega arith))

    places : drop n (unit_numbers (row_size n w) c) ≡ replicate (w + 1) (pos 0)
    places = drop-set-lt n (replicate (row_size n w) (pos 0)) c (pos 1) h ∙ drop-replicate n (row_size n w) (pos 0) ∙ ap (λ (k : ℕ). replicate k (pos 0)) behind

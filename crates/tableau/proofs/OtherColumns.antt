-- The row of another column in a pivot.
use Rattle.tableau.proofs.Words.{◌≡◌, refl, ap, sym, ◌∙◌, ℕ, zero, suc, ◌+◌, ◌-◌, ◌<◌, ◌≢◌, ℤ, pos, ◌≤ℤ◌, ◌*ℤ◌, true, List, ◌∷◌, replicate, arith, get_or-set_other, IsTrue, slice_set, map-append, get_or-replicate, fits, entry, scale, all_fit, Row, unit_row, eliminated, eliminated_listed, IsRow, content-one, eliminated_none, eliminated_listed-none, all_fit-append, any_zero, by_one, unit_parts, unit_fits, once}

zeros_fit : (a : ℤ) (n : ℕ) → all_fit (scale a (replicate n (pos 0))) ≡ true
zeros_fit a zero = refl
zeros_fit a (suc n) = rw (any_zero a, zeros_fit a n) refl

unit_entries_fit : (a : ℤ) (n k : ℕ) → k < n → fits a ≡ true → all_fit (scale a (slice_set (replicate n (pos 0)) k (pos 1))) ≡ true
unit_entries_fit a n k h e =
    ap (λ (xs : List ℤ). all_fit (scale a xs)) (unit_parts n k h)
    ∙ ap all_fit (map-append (λ x. a *ℤ x) (replicate k (pos 0)) (pos 1 ∷ replicate (n - (k + 1)) (pos 0)))
    ∙ all_fit-append (scale a (replicate k (pos 0))) (scale a (pos 1 ∷ replicate (n - (k + 1)) (pos 0)))
    ∙ rw (zeros_fit a k, by_one a, e, zeros_fit a (n - (k + 1))) refl

other_entry : (n w k c : ℕ) → c < n → c ≢ k → entry (unit_row n w k).coefs c ≡ pos 0
other_entry n w k c h other = get_or-set_other (replicate n (pos 0)) k c (pos 1) (pos 0) other ∙ get_or-replicate n c (pos 0) (pos 0) h

pub unit_listed : (n w k c : ℕ) (p : Row) → k < n → c < n → c ≢ k → IsRow n w p → IsTrue (all_fit (eliminated_listed p c (unit_row n w k)))
unit_listed n w k c p h column other hp =
    let u = unit_fits n w k h in
    let at : fits (entry p.coefs c) ≡ true = hp.coefs_fit c (pos 0) (omega (arith, hp.coefs)) in
    eliminated_listed-none p c (unit_row n w k) (other_entry n w k c column other) (u.coefs ∙ sym hp.coefs) (u.constant ∙ sym hp.constant)
    ∙ rw (once (entry p.coefs c), at, unit_entries_fit (entry p.coefs c) n k h at, zeros_fit (entry p.coefs c) (w + 1)) refl

pub unit_turned : (n w k c : ℕ) (p : Row) → k < n → c < n → c ≢ k → IsRow n w p → pos 1 ≤ℤ entry p.coefs c → unit_row n w k ≡ eliminated p c (unit_row n w k)
unit_turned n w k c p h column other hp positive =
    eliminated_none n w p c (unit_row n w k) hp (unit_fits n w k h) positive (other_entry n w k c column other) (content-one (unit_row n w k) refl)

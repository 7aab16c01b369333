-- The rows of columns, as they are found.
use Rattle.row_laws.proofs.Words.{◌≡◌, refl, ap, sym, ◌∙◌, ℕ, zero, suc, ◌+◌, ◌-◌, ◌<◌, ◌≤◌, ℤ, pos, true, false, ◌&&◌, List, [], ◌∷◌, ◌++◌, length, take, drop, replicate, arith, slice_set, IsTrue, list_all, drop-replicate, take-replicate, length-replicate, length-drop, take-append-drop, take_all, get_or-drop, is_zero, same_number, entry, unit_row, both, is_unit, is_unit_row, is_zero_is, same_number_is}
use Rattle.std.proofs.lemmas.List.{append-nil}
use Rattle.row_laws.proofs.Places.{set_parts}

-- zeros with a 1 at place c
pub unit_parts : (n c : ℕ) → c < n → slice_set (replicate n (pos 0)) c (pos 1) ≡ replicate c (pos 0) ++ pos 1 ∷ replicate (n - (c + 1)) (pos 0)
unit_parts n c h =
    set_parts (replicate n (pos 0)) c (pos 1) (simp length-replicate h)
    ∙ rw (take-replicate c n (pos 0) (omega arith), drop-replicate (c + 1) n (pos 0)) refl

pub zeros_are : (zs : List ℤ) → IsTrue (list_all is_zero zs) → zs ≡ replicate (length zs) (pos 0)
zeros_are [] h = refl
zeros_are (z ∷ zs) h =
    let parts = both (is_zero z) (list_all is_zero zs) h in
    rw (is_zero_is z parts.0, ← zeros_are zs parts.1) refl

pub all_zeros : (n : ℕ) → list_all is_zero (replicate n (pos 0)) ≡ true
all_zeros zero = refl
all_zeros (suc n) = all_zeros n

-- zeros in front of a list
pub unit_behind : (n : ℕ) (zs : List ℤ) → is_unit (replicate n (pos 0) ++ zs) ≡ is_unit zs
unit_behind zero zs = refl
unit_behind (suc n) zs = unit_behind n zs

pub unit_is : (n w c : ℕ) → c < n → is_unit_row (unit_row n w c) ≡ true
unit_is n w c h =
    rw (unit_parts n c h, unit_behind c (pos 1 ∷ replicate (n - (c + 1)) (pos 0)), all_zeros (n - (c + 1)), all_zeros (w + 1)) refl

-- the list by its zeros and what is behind them
begun : (zs : List ℤ) (i : ℕ) → take i zs ≡ replicate i (pos 0) → zs ≡ replicate i (pos 0) ++ drop i zs
begun zs i e = sym (take-append-drop i zs) ∙ ap (λ (ys : List ℤ). ys ++ drop i zs) e

-- a 1, and zeros behind it
one_alone : (zs : List ℤ) → 0 < length zs → IsTrue (same_number (entry zs 0) (pos 1) && list_all is_zero (drop 1 zs)) → zs ≡ pos 1 ∷ replicate (length zs - 1) (pos 0)
one_alone [] h e = absurd (omega arith)
one_alone (z ∷ zs) h e =
    let parts = both (same_number z (pos 1)) (list_all is_zero zs) e in
    let long : suc (length zs) - 1 ≡ length zs = omega arith in
    rw (long, same_number_is z (pos 1) parts.0, ← zeros_are zs parts.1) refl

pub found : (zs : List ℤ) (i : ℕ) → i < length zs → take i zs ≡ replicate i (pos 0)
    → IsTrue (same_number (entry (drop i zs) 0) (pos 1) && list_all is_zero (drop 1 (drop i zs))) → zs ≡ slice_set (replicate (length zs) (pos 0)) i (pos 1)
found zs i h e f =
    let some : 0 < length (drop i zs) = simp length-drop (omega arith) in
    let left : length (drop i zs) - 1 ≡ length zs - (i + 1) = simp length-drop (omega arith) in
    begun zs i e
    ∙ ap (λ (ys : List ℤ). replicate i (pos 0) ++ ys) (one_alone (drop i zs) some f ∙ ap (λ k. pos 1 ∷ replicate k (pos 0)) left)
    ∙ sym (unit_parts (length zs) i h)

-- a first number that is not 0, and is not 1 or has another behind it
other : (zs : List ℤ) → 0 < length zs → is_zero (entry zs 0) ≡ false → (same_number (entry zs 0) (pos 1) && list_all is_zero (drop 1 zs)) ≡ false → is_unit zs ≡ false
other [] h e f = absurd (omega arith)
other (z ∷ zs) h e f = rw e f

pub not_found : (zs : List ℤ) (i : ℕ) → i < length zs → take i zs ≡ replicate i (pos 0) → is_zero (entry zs i) ≡ false
    → (same_number (entry (drop i zs) 0) (pos 1) && list_all is_zero (drop 1 (drop i zs))) ≡ false → is_unit zs ≡ false
not_found zs i h e none f =
    ap is_unit (begun zs i e) ∙ unit_behind i (drop i zs)
    ∙ other (drop i zs) (simp length-drop (omega arith)) (ap is_zero (get_or-drop i zs 0 (pos 0) ∙ ap (entry zs) (omega arith)) ∙ none) f

pub none_found : (zs : List ℤ) (i : ℕ) → length zs ≤ i → take i zs ≡ replicate i (pos 0) → is_unit zs ≡ false
none_found zs i h e = ap is_unit (sym (take_all i zs h) ∙ e ∙ sym (append-nil (replicate i (pos 0)))) ∙ unit_behind i []

pub unit_row_is : (den : ℤ) (coefs constant : List ℤ) (c : ℕ) → 0 < length constant → den ≡ pos 1 → IsTrue (list_all is_zero constant)
    → coefs ≡ slice_set (replicate (length coefs) (pos 0)) c (pos 1) → record { den = den; coefs = coefs; constant = constant } ≡ unit_row (length coefs) (length constant - 1) c
unit_row_is den coefs constant c h e f g =
    let long : length constant - 1 + 1 ≡ length constant = omega arith in
    rw (e, long, ← zeros_are constant f, ← g) refl

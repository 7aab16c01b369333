-- A row that is turned by the list of the places at which the pivot's row is not 0.
use Rattle.short_row.proofs.Words.{◌≡◌, refl, ap, sym, ◌∙◌, ℕ, zero, suc, ◌+◌, ◌<◌, ◌≤◌, ℤ, pos, negsuc, ◌*ℤ◌, ◌-ℤ◌, Bool, true, false, List, [], ◌∷◌, length, get_or, set, arith, ints, add-one, length-map, combined, combined_step}
use Rattle.std.proofs.Math.ListN.{get_or-map, get_or-eq_default}
use Rattle.pip_model.specs.Numbers.{is_zero}
use Rattle.short_numbers.specs.Nonzeros.{nonzeros, AreNonzeros}
use Rattle.short_numbers.proofs.Places.{with_first, reached, listed_at, listed_reached, listed_within}

module _ (b : ℤ) where
  -- in front of the first all stays
  pub reached_first : (r s : List ℤ) → length r ≡ length s → combined (pos 1) r b s (reached s 0) ≡ r
  reached_first [] [] h = refl
  reached_first (x ∷ r) (pos zero ∷ s) h =
      rw (get_or-map suc (nonzeros s) 0 (length s)) (rw (reached_first r s (omega arith)) (ap (λ y. y ∷ r) (omega (arith, ints))))
  reached_first (x ∷ r) (pos (suc n) ∷ s) h = refl
  reached_first (x ∷ r) (negsuc n ∷ s) h = refl
  reached_first _ _ h = absurd (omega arith)

  next_first : (x z : ℤ) (r s : List ℤ) (none : Bool) (k : ℕ) → combined (pos 1) r b s (reached s 0) ≡ r → ((k : ℕ) → k < length (nonzeros s) → combined (pos 1) r b s (suc (reached s k)) ≡ combined (pos 1) r b s (reached s (suc k)))
      → k < length (with_first none (nonzeros s))
      → combined (pos 1) (x ∷ r) b (z ∷ s) (suc (get_or (with_first none (nonzeros s)) k (suc (length s)))) ≡ combined (pos 1) (x ∷ r) b (z ∷ s) (get_or (with_first none (nonzeros s)) (suc k) (suc (length s)))
  next_first x z r s true k first next more =
      rw (get_or-map suc (nonzeros s) k (length s), get_or-map suc (nonzeros s) (suc k) (length s))
      (ap (λ ys. (pos 1 *ℤ x -ℤ b *ℤ z) ∷ ys) (next k (rw (sym (length-map (nonzeros s) suc)) more)))
  next_first x z r s false zero first next more = rw (get_or-map suc (nonzeros s) 0 (length s)) (ap (λ ys. (pos 1 *ℤ x -ℤ b *ℤ z) ∷ ys) (sym first))
  next_first x z r s false (suc k) first next more =
      rw (get_or-map suc (nonzeros s) k (length s), get_or-map suc (nonzeros s) (suc k) (length s))
      (ap (λ ys. (pos 1 *ℤ x -ℤ b *ℤ z) ∷ ys) (next k (rw (sym (length-map (nonzeros s) suc)) (omega (arith, more)))))

  -- nor between one and the next
  reached_next : (r s : List ℤ) (k : ℕ) → length r ≡ length s → k < length (nonzeros s) → combined (pos 1) r b s (suc (reached s k)) ≡ combined (pos 1) r b s (reached s (suc k))
  reached_next [] [] k h more = absurd (omega arith)
  reached_next (x ∷ r) (z ∷ s) k h more = next_first x z r s (is_zero z) k (reached_first r s (omega arith)) (λ j less. reached_next r s j (omega arith) less) more
  reached_next _ _ k h more = absurd (omega arith)

-- the entry at place k of a list of them is made
module _ (b : ℤ) (r s : List ℤ) (places : List ℕ) (k i : ℕ) (h : AreNonzeros s places) (less : k < length places) (is : i ≡ get_or places k 0) (same : length r ≡ length s) (now : List ℤ)
    (before : now ≡ combined (pos 1) r b s (reached s k)) where
  place_is : i ≡ reached s k
  place_is = is ∙ listed_reached s places k h less

  pub made_before : now ≡ combined (pos 1) r b s i
  made_before = rw place_is before

  pub made_behind : (z : ℤ) → z ≡ pos 1 *ℤ get_or now i (pos 0) -ℤ b *ℤ get_or s i (pos 0) → set now i z ≡ combined (pos 1) r b s (reached s (k + 1))
  made_behind z e =
      combined_step (pos 1) b r s same i (let within = listed_within s places k h less in omega (arith, within, is, same)) now z made_before e
      ∙ rw (place_is, add-one (reached s k), add-one k) (reached_next b r s k same (listed_at s places k h less))

-- behind all of them all is made
pub made_all : (b : ℤ) (r s : List ℤ) (places : List ℕ) (k n : ℕ) → AreNonzeros s places → length places ≤ k → n ≡ length s → (now : List ℤ) → now ≡ combined (pos 1) r b s (reached s k) → now ≡ combined (pos 1) r b s n
made_all b r s places k n h more size now e =
    let end : n ≡ reached s k = size ∙ sym (get_or-eq_default (nonzeros s) (length s) (rw (sym h.list) more)) in
    rw end e

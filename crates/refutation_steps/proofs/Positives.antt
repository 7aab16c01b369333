-- Indices with positive multipliers, one by one; indices of rows.
use Rattle.refutation_steps.proofs.Words.{◌≡◌, refl, ap, ◌∙◌, ℕ, zero, suc, ◌+◌, ◌-◌, ◌<◌, ◌≤◌, ℤ, pos, negsuc, ints, ◌≤ℤ◌, ◌<ℤ◌, neg_ℤ, true, false, List, [], ◌∷◌, ◌++◌, length, length-append, length-map, length-count, get_or_append_left, take, drop, arith, sym, drop_more, take-append-le, is_positive, entry, negate, entry-negate, positive_terms, indices, get_or-append_right, get_or_read, ap₂, get_or, count_from}
use Rattle.std.proofs.Math.Seq.{append_snoc}

module _ (is ms : List ℤ) (i : ℕ) (h : i < length is) (k : length ms ≡ length is) where
  pub positive-here : is_positive (entry ms i) ≡ true → positive_terms (drop i is) (drop i ms) ≡ (entry is i, entry ms i) ∷ positive_terms (drop (i + 1) is) (drop (i + 1) ms)
  positive-here e =
      let g : i < length ms = omega (arith, h, k) in
      rw (drop_more is i (pos 0) h, drop_more ms i (pos 0) g, e) refl

  pub positive-later : is_positive (entry ms i) ≡ false → positive_terms (drop i is) (drop i ms) ≡ positive_terms (drop (i + 1) is) (drop (i + 1) ms)
  positive-later e =
      let g : i < length ms = omega (arith, h, k) in
      rw (drop_more is i (pos 0) h, drop_more ms i (pos 0) g, e) refl

  -- a pair more, and what is left
  pub push-here : (T U X : List (ℤ × ℤ)) → U ≡ T ++ (entry is i, entry ms i) ∷ [] → is_positive (entry ms i) ≡ true
      → T ++ positive_terms (drop i is) (drop i ms) ≡ X → U ++ positive_terms (drop (i + 1) is) (drop (i + 1) ms) ≡ X
  push-here T U X made e same =
      let rest = positive_terms (drop (i + 1) is) (drop (i + 1) ms) in
      ap (λ (V : List (ℤ × ℤ)). V ++ rest) made ∙ append_snoc T (entry is i, entry ms i) rest ∙ ap (λ (V : List (ℤ × ℤ)). T ++ V) (sym (positive-here e)) ∙ same

  pub push-later : (T X : List (ℤ × ℤ)) → is_positive (entry ms i) ≡ false → T ++ positive_terms (drop i is) (drop i ms) ≡ X
      → T ++ positive_terms (drop (i + 1) is) (drop (i + 1) ms) ≡ X
  push-later T X e same = ap (λ (V : List (ℤ × ℤ)). T ++ V) (sym (positive-later e)) ∙ same

-- what stands in front stays there
pub kept-here : (S T U : List (ℤ × ℤ)) (x : ℤ × ℤ) → U ≡ T ++ x ∷ [] → take (length S) T ≡ S → length S ≤ length T → take (length S) U ≡ S
kept-here S T U x made kept long = rw (made, take-append-le (length S) T (x ∷ []) long) kept

pub longer-here : (S T U : List (ℤ × ℤ)) (x : ℤ × ℤ) → U ≡ T ++ x ∷ [] → length S ≤ length T → length S ≤ length U
longer-here S T U x made long = rw made (omega (arith, length-append T (x ∷ [])))

-- opposites are above 0 just where the numbers are below 0
pub opposite-here : (xs : List ℤ) (i : ℕ) → entry xs i <ℤ pos 0 → is_positive (entry (negate xs) i) ≡ true
opposite-here xs i h = ap is_positive (entry-negate xs i) ∙ above (entry xs i) h
  where
    above : (z : ℤ) → z <ℤ pos 0 → is_positive (neg_ℤ z) ≡ true
    above (pos n) h = absurd (omega (arith, ints))
    above (negsuc n) h = refl

pub opposite-later : (xs : List ℤ) (i : ℕ) → pos 0 ≤ℤ entry xs i → is_positive (entry (negate xs) i) ≡ false
opposite-later xs i h = ap is_positive (entry-negate xs i) ∙ rest (entry xs i) h
  where
    rest : (z : ℤ) → pos 0 ≤ℤ z → is_positive (neg_ℤ z) ≡ false
    rest (pos zero) h = refl
    rest (pos (suc n)) h = refl
    rest (negsuc n) h = absurd (omega (arith, ints))

-- ---- the index of a row's form

pub index_at : (i n k : ℕ) → k < n → entry (indices i n) k ≡ pos (i + k)
index_at i zero k h = absurd (omega arith)
index_at i (suc n) zero h = ap pos (let e : i ≡ i + 0 = omega arith in e)
index_at i (suc n) (suc k) h = index_at (i + 1) n k (omega arith) ∙ ap pos (let e : i + 1 + k ≡ i + suc k = omega arith in e)

-- the rows of m places, of n forms and of the cuts, and one behind the places
module _ (rows places cuts : List ℤ) (n r m : ℕ) (is : rows ≡ places ++ indices 0 n ++ cuts) (same : m ≡ length places) (low : m ≤ r) where
  length-front : length (places ++ indices 0 n) ≡ m + n
  length-front = length-append places (indices 0 n) ∙ ap₂ (λ (k l : ℕ). k + l) (sym same) (length-map (count_from 0 n) pos ∙ length-count 0 n)

  pub of_form : r - m < n → entry rows r ≡ pos (r - m)
  of_form h =
      let front = length-front in
      ap (λ (X : List ℤ). entry X r) is
      ∙ get_or_append_left (places ++ indices 0 n) cuts (pos 0) r (omega arith)
      ∙ get_or-append_right places (indices 0 n) m r (pos 0) (sym same) low
      ∙ index_at 0 n (r - m) h
      ∙ ap pos (let e : 0 + (r - m) ≡ r - m = omega arith in e)

  pub in_cuts : r < length rows → n ≤ r - m → r - m - n < length cuts
  in_cuts h k =
      let long : length rows ≡ length (places ++ indices 0 n) + length cuts = ap length is ∙ length-append (places ++ indices 0 n) cuts in
      let front = length-front in
      omega arith

  pub of_cut : r < length rows → n ≤ r - m → (x : ℤ) → x ≡ get_or cuts (r - m - n) x → entry rows r ≡ x
  of_cut h k x read =
      ap (λ (X : List ℤ). entry X r) is
      ∙ get_or-append_right (places ++ indices 0 n) cuts (m + n) r (pos 0) length-front (omega arith)
      ∙ ap (entry cuts) (let e : r - (m + n) ≡ r - m - n = omega arith in e)
      ∙ sym (get_or_read cuts (r - m - n) x (in_cuts h k) read (pos 0))

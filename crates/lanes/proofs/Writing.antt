-- Numbers that are written one after the other.
use Rattle.lanes.proofs.Words.{◌≡◌, ◌∙◌, refl, ap, sym, subst, ℕ, zero, suc, ◌+◌, ◌^◌, ◌<◌, ◌≤◌, ℤ, pos, ◌+ℤ◌, ◌-ℤ◌, ◌*ℤ◌, ◌≤ℤ◌, neg_ℤ, unsigned_abs, arith, nat_lt, ◌*◌, ◌⊎◌, inl, inr, List, [], ◌∷◌, length, length-set, replicate, ints, unsigned_abs-mul, mul-le, length-map, get_or_past, slice_set, entry, add, combine, negate, scale, AreAddable, AreCovered, AreLanes, AreNarrowTimes, AreTurnable, IsNarrow, left_of}
use Rattle.std.proofs.lemmas.Bool.{cases_eq}
use Rattle.pip_model.proofs.Forms.{length-add, length-combine, entry-combine, entry-negate, entry-scale, entry-zeros}
use Rattle.run_laws.proofs.Sums.{entry-set_same, entry-set_other, length-scale}

-- the numbers before place i are as R says, those from there on are as they were
pub record Written (R : ℕ → ℤ → Type 0) (old now : List ℤ) (i : ℕ) : Type 0 where
  pub long : length now ≡ length old
  pub done : (k : ℕ) → k < i → R k (entry now k)
  pub left : (k : ℕ) → i ≤ k → entry now k ≡ entry old k

pub written_step : (R : ℕ → ℤ → Type 0) (old now new : List ℤ) (i j : ℕ) (z : ℤ) → Written R old now i → i < length now → new ≡ slice_set now i z → j ≡ i + 1 → R i z → Written R old new j
written_step R old now new i j z h lt e f r = record {
  long = ap length e ∙ length-set now i z ∙ h.long;
  done = λ k lt'. subst (λ (zs : List ℤ). R k (entry zs k)) (sym e) (by k (omega (arith, lt', f)) (cases_eq k i));
  left = λ k le. ap (λ (zs : List ℤ). entry zs k) e ∙ entry-set_other now i z k (λ is. absurd (omega (arith, le, f, is))) ∙ h.left k (omega (arith, le, f));
}
  where
    by : (k : ℕ) → k < i + 1 → (k ≡ i) ⊎ (k ≡ i → ⊥) → R k (entry (slice_set now i z) k)
    by k lt' (inl is) = subst (λ (m : ℕ). R m (entry (slice_set now i z) m)) (sym is) (subst (R i) (sym (entry-set_same now i z lt)) r)
    by k lt' (inr not) = subst (R k) (sym (entry-set_other now i z k not)) (h.done k (before k i lt' not))
      where
        before : (k i : ℕ) → k < i + 1 → (k ≡ i → ⊥) → k < i
        before k i lt not = omega (arith, lt, not)

pub same_entries : (xs ys : List ℤ) → length xs ≡ length ys → ((k : ℕ) → k < length xs → entry xs k ≡ entry ys k) → xs ≡ ys
same_entries [] [] e f = refl
same_entries [] (y ∷ ys) e f = absurd (omega arith)
same_entries (x ∷ xs) [] e f = absurd (omega arith)
same_entries (x ∷ xs) (y ∷ ys) e f = rw (f 0 (omega arith), same_entries xs ys (omega arith) (λ k h. f (suc k) (omega (arith, h)))) refl

-- ---- narrow numbers

split_at : (k n : ℕ) → (k < n) ⊎ (n ≤ k)
split_at k zero = inr (omega arith)
split_at zero (suc n) = inl (omega arith)
split_at (suc k) (suc n) = next (split_at k n)
  where
    next : (k < n) ⊎ (n ≤ k) → (suc k < suc n) ⊎ (suc n ≤ suc k)
    next (inl h) = inl (omega (arith, h))
    next (inr h) = inr (omega (arith, h))

narrow_zero : (z : ℤ) → z ≡ pos 0 → unsigned_abs z < 2 ^ 31
narrow_zero z e = rw e (omega arith)

narrow_end : (R : ℕ → ℤ → Type 0) (old now : List ℤ) (i : ℕ) → AreLanes old → length now ≤ i → Written R old now i → ((k : ℕ) (z : ℤ) → R k z → unsigned_abs z < 2 ^ 31) → AreLanes now
narrow_end R old now i h le w n = record {
  long = w.long ∙ h.long;
  narrow = λ k. by k (split_at k (length now));
}
  where
    by : (k : ℕ) → (k < length now) ⊎ (length now ≤ k) → unsigned_abs (entry now k) < 2 ^ 31
    by k (inl lt) = n k (entry now k) (w.done k (omega (arith, lt, le)))
    by k (inr past) = narrow_zero (entry now k) (get_or_past now k (pos 0) past)

pub zeros_lanes : AreLanes (replicate 8 (pos 0))
zeros_lanes = record {
  long = refl;
  narrow = λ k. narrow_zero (entry (replicate 8 (pos 0)) k) (entry-zeros 8 k);
}

pub set_lanes : (zs : List ℤ) (k : ℕ) (z : ℤ) → AreLanes zs → k < 8 → IsNarrow z → AreLanes (slice_set zs k z)
set_lanes zs k z h lt n = record {
  long = length-set zs k z ∙ h.long;
  narrow = λ j. by j (cases_eq j k);
}
  where
    by : (j : ℕ) → (j ≡ k) ⊎ (j ≡ k → ⊥) → unsigned_abs (entry (slice_set zs k z) j) < 2 ^ 31
    by j (inl is) = subst (λ (y : ℤ). unsigned_abs y < 2 ^ 31) (sym (ap (entry (slice_set zs k z)) is ∙ entry-set_same zs k z (omega (arith, lt, h.long)))) n
    by j (inr not) = subst (λ (y : ℤ). unsigned_abs y < 2 ^ 31) (sym (entry-set_other zs k z j not)) (h.narrow j)

-- ---- multiples

pub times_end : (f : ℤ) (old now : List ℤ) (i : ℕ) → length now ≤ i → Written (λ k z. z ≡ f *ℤ entry old k) old now i → now ≡ scale f old
times_end f old now i le h = same_entries now (scale f old) (h.long ∙ sym (length-scale f old)) (λ k lt. h.done k (omega (arith, lt, le)) ∙ sym (entry-scale f old k))

pub times_lanes : (f : ℤ) (old now : List ℤ) (i : ℕ) → AreLanes old → AreNarrowTimes f old → length now ≤ i → Written (λ k z. z ≡ f *ℤ entry old k) old now i → AreLanes now
times_lanes f old now i h n le w = narrow_end (λ k z. z ≡ f *ℤ entry old k) old now i h le w (λ k z e. subst (λ (y : ℤ). unsigned_abs y < 2 ^ 31) (sym e) (n k))

-- ---- sums

pub entry-add : (xs ys : List ℤ) (k : ℕ) → length xs ≡ length ys → entry (add xs ys) k ≡ entry xs k +ℤ entry ys k
entry-add [] [] k e = omega (arith, ints)
entry-add (x ∷ xs) (y ∷ ys) zero e = refl
entry-add (x ∷ xs) (y ∷ ys) (suc k) e = entry-add xs ys k (omega arith)
entry-add _ _ k e = absurd (omega arith)

pub added_end : (f : ℤ) (old ys now : List ℤ) (i : ℕ) → length old ≡ length ys → length now ≤ i → Written (λ k z. z ≡ entry old k +ℤ f *ℤ entry ys k) old now i → now ≡ add old (scale f ys)
added_end f old ys now i e le h =
    let long : length old ≡ length (scale f ys) = e ∙ sym (length-scale f ys) in
    same_entries now (add old (scale f ys)) (h.long ∙ sym (length-add old (scale f ys) long))
    (λ k lt. h.done k (omega (arith, lt, le)) ∙ ap (λ (z : ℤ). entry old k +ℤ z) (sym (entry-scale f ys k)) ∙ sym (entry-add old (scale f ys) k long))

pub added_lanes : (f : ℤ) (old ys now : List ℤ) (i : ℕ) → AreLanes old → AreAddable old f ys → length now ≤ i → Written (λ k z. z ≡ entry old k +ℤ f *ℤ entry ys k) old now i → AreLanes now
added_lanes f old ys now i h n le w = narrow_end (λ k z. z ≡ entry old k +ℤ f *ℤ entry ys k) old now i h le w (λ k z e. subst (λ (y : ℤ). unsigned_abs y < 2 ^ 31) (sym e) (n.sums k))

-- ---- differences

pub combined_end : (a b : ℤ) (old p now : List ℤ) (i : ℕ) → length old ≡ length p → length now ≤ i → Written (λ k z. z ≡ a *ℤ entry old k -ℤ b *ℤ entry p k) old now i → now ≡ combine a old b p
combined_end a b old p now i e le h = same_entries now (combine a old b p) (h.long ∙ sym (length-combine a old b p e))
    (λ k lt. h.done k (omega (arith, lt, le)) ∙ sym (entry-combine a old b p k e))

narrow_difference : (x y z : ℤ) → unsigned_abs x < 2 ^ 30 → unsigned_abs y < 2 ^ 30 → z ≡ x -ℤ y → unsigned_abs z < 2 ^ 31
narrow_difference x y z h k e = omega (arith, ints, h, k, e)

pub combined_lanes : (a b : ℤ) (old p now : List ℤ) (i : ℕ) → AreLanes old → AreTurnable a old b p → length now ≤ i → Written (λ k z. z ≡ a *ℤ entry old k -ℤ b *ℤ entry p k) old now i → AreLanes now
combined_lanes a b old p now i h n le w = narrow_end (λ k z. z ≡ a *ℤ entry old k -ℤ b *ℤ entry p k) old now i h le w (λ k z e. narrow_difference (a *ℤ entry old k) (b *ℤ entry p k) z (n.first k) (n.second k) e)

-- ---- opposites

pub negated_end : (old now : List ℤ) (i : ℕ) → length now ≤ i → Written (λ k z. z ≡ neg_ℤ (entry old k)) old now i → now ≡ negate old
negated_end old now i le h = same_entries now (negate old) (h.long ∙ sym (length-map old neg_ℤ)) (λ k lt. h.done k (omega (arith, lt, le)) ∙ sym (entry-negate old k))

narrow_opposite : (x z : ℤ) → unsigned_abs x < 2 ^ 31 → z ≡ neg_ℤ x → unsigned_abs z < 2 ^ 31
narrow_opposite x z h e = omega (arith, ints, h, e)

pub negated_lanes : (old now : List ℤ) (i : ℕ) → AreLanes old → length now ≤ i → Written (λ k z. z ≡ neg_ℤ (entry old k)) old now i → AreLanes now
negated_lanes old now i h le w = narrow_end (λ k z. z ≡ neg_ℤ (entry old k)) old now i h le w (λ k z e. narrow_opposite (entry old k) z (h.narrow k) e)

-- ---- numbers that cover others

-- what is written of two lists, number by number
abbrev pub Covers : List ℤ → List ℤ → ℕ → ℤ → Type 0
Covers xs ys k z = (unsigned_abs (entry xs k) ≤ unsigned_abs z) × (unsigned_abs (entry ys k) ≤ unsigned_abs z) × (unsigned_abs z < 2 ^ 31)

covered : (xs now : List ℤ) → length xs ≡ length now → ((k : ℕ) → k < length now → unsigned_abs (entry xs k) ≤ unsigned_abs (entry now k)) → AreCovered xs now
covered xs now e f k = by (split_at k (length now))
  where
    none : (x z : ℤ) → x ≡ pos 0 → unsigned_abs x ≤ unsigned_abs z
    none x z is = rw is (omega arith)

    by : (k < length now) ⊎ (length now ≤ k) → unsigned_abs (entry xs k) ≤ unsigned_abs (entry now k)
    by (inl lt) = f k lt
    by (inr past) = none (entry xs k) (entry now k) (get_or_past xs k (pos 0) (omega (arith, past, e)))

pub covered_end : (old ys now : List ℤ) (i : ℕ) → AreLanes old → AreLanes ys → length now ≤ i → Written (Covers old ys) old now i → AreCovered old now × AreCovered ys now × AreLanes now
covered_end old ys now i own others le w = (
  covered old now (sym w.long) (λ k lt. (w.done k (omega (arith, lt, le))).0),
  covered ys now (others.long ∙ sym (w.long ∙ own.long)) (λ k lt. (w.done k (omega (arith, lt, le))).1),
  narrow_end (Covers old ys) old now i own le w (λ k z h. h.2),
)

-- ---- quotients, and what they leave

quotient_narrow : (l q z : ℤ) → pos 1 ≤ℤ l → l *ℤ q ≡ z → unsigned_abs z < 2 ^ 31 → unsigned_abs q < 2 ^ 31
quotient_narrow l q z h e n =
    let size : unsigned_abs z ≡ unsigned_abs l * unsigned_abs q = ap unsigned_abs (sym e) ∙ unsigned_abs-mul l q in
    let one : 1 ≤ unsigned_abs l = positive l h in
    let more : 1 * unsigned_abs q ≤ unsigned_abs l * unsigned_abs q = mul-le 1 (unsigned_abs q) (unsigned_abs l) (unsigned_abs q) one (omega arith) in
    omega (arith, size, more, n)
  where
    positive : (l : ℤ) → pos 1 ≤ℤ l → 1 ≤ unsigned_abs l
    positive l h = omega (arith, ints, h)

pub divided_end : (l : ℤ) (old now : List ℤ) (i : ℕ) → length now ≤ i → Written (λ k z. l *ℤ z ≡ entry old k) old now i → scale l now ≡ old
divided_end l old now i le h = same_entries (scale l now) old (length-scale l now ∙ h.long)
    (λ k lt. entry-scale l now k ∙ h.done k (omega (arith, lt, le, length-scale l now)))

pub divided_lanes : (l : ℤ) (old now : List ℤ) (i : ℕ) → pos 1 ≤ℤ l → AreLanes old → length now ≤ i → Written (λ k z. l *ℤ z ≡ entry old k) old now i → AreLanes now
divided_lanes l old now i h lanes le w = narrow_end (λ k z. l *ℤ z ≡ entry old k) old now i lanes le w (λ k z e. quotient_narrow l z (entry old k) h e (lanes.narrow k))

pub left_end : (l : ℤ) (old now : List ℤ) (i k : ℕ) → AreLanes old → length now ≤ i → Written (λ k z. (z ≡ left_of l (nat_lt 0 k) (entry old k)) × (unsigned_abs z < 2 ^ 31)) old now i → k < 8 → entry now k ≡ left_of l (nat_lt 0 k) (entry old k)
left_end l old now i k lanes le w lt = (w.done k (omega (arith, lt, le, w.long, lanes.long))).0

pub left_lanes : (l : ℤ) (old now : List ℤ) (i : ℕ) → AreLanes old → length now ≤ i → Written (λ k z. (z ≡ left_of l (nat_lt 0 k) (entry old k)) × (unsigned_abs z < 2 ^ 31)) old now i → AreLanes now
left_lanes l old now i lanes le w = narrow_end (λ k z. (z ≡ left_of l (nat_lt 0 k) (entry old k)) × (unsigned_abs z < 2 ^ 31)) old now i lanes le w (λ k z e. e.1)

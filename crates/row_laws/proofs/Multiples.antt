-- Multiples of a number: what divides the numbers that two numbers without a common divisor make of others.
use Rattle.row_laws.proofs.Words.{◌≡◌, ◌∙◌, refl, ap, subst, ℕ, zero, suc, ◌*◌, ◌<◌, ℤ, pos, ◌+ℤ◌, ◌-ℤ◌, ◌*ℤ◌, unsigned_abs, arith, List, [], ◌∷◌, length, slice_set, AllByRecursion, unsigned_abs-mul, gcd, entry, combine, Multiple, common, common-scaled, common-IsGcd, ◌∣◌, dvd-zero, multiple-dvd, dvd-multiple, var, ◌⊕◌, ◌⊖◌, ◌⊗◌, ring}

-- ---- numbers

cancelled_size : (d n k m : ℕ) → common k m ≡ 1 → d ∣ n * k → d ∣ n * m → d ∣ n
cancelled_size d zero k m one h g = dvd-zero d
cancelled_size d (suc n) k m one h g =
    let all : common (suc n * k) (suc n * m) ≡ suc n = common-scaled (suc n) k m (omega arith) ∙ ap (λ t. suc n * t) one ∙ omega arith in
    subst (λ t. d ∣ t) all ((common-IsGcd (suc n * k) (suc n * m)).2 d h g)

-- what divides the products of z and two numbers without a common divisor divides z
pub cancelled : (d : ℕ) (x y z : ℤ) → gcd x y ≡ pos 1 → Multiple (pos d) (z *ℤ x) → Multiple (pos d) (z *ℤ y) → Multiple (pos d) z
cancelled d x y z one p q =
    let first = subst (λ n. d ∣ n) (unsigned_abs-mul z x) (multiple-dvd d (z *ℤ x) p) in
    let second = subst (λ n. d ∣ n) (unsigned_abs-mul z y) (multiple-dvd d (z *ℤ y) q) in
    dvd-multiple d z (cancelled_size d (unsigned_abs z) (unsigned_abs x) (unsigned_abs y) (ap unsigned_abs one) first second)

pub times-multiple : (d x z : ℤ) → Multiple d x → Multiple d (z *ℤ x)
times-multiple d x z m = record { times = z *ℤ m.times; is = ap (λ t. z *ℤ t) m.is ∙ ring (d ∷ z ∷ m.times ∷ []) (var 1 ⊗ (var 0 ⊗ var 2)) (var 0 ⊗ (var 1 ⊗ var 2)) refl }

same_sum : (d s t x y u v : ℤ) → x *ℤ u -ℤ y *ℤ v ≡ d *ℤ s → y ≡ d *ℤ t → u *ℤ x ≡ d *ℤ (s +ℤ t *ℤ v)
same_sum d s t x y u v e f =
    ring (x ∷ u ∷ y ∷ v ∷ []) (var 1 ⊗ var 0) ((var 0 ⊗ var 1 ⊖ var 2 ⊗ var 3) ⊕ var 2 ⊗ var 3) refl
    ∙ ap (λ k. k +ℤ y *ℤ v) e
    ∙ ap (λ k. d *ℤ s +ℤ k *ℤ v) f
    ∙ ring (d ∷ s ∷ t ∷ v ∷ []) (var 0 ⊗ var 1 ⊕ (var 0 ⊗ var 2) ⊗ var 3) (var 0 ⊗ (var 1 ⊕ var 2 ⊗ var 3)) refl

same_rest : (d s t x y u v : ℤ) → x *ℤ u -ℤ y *ℤ v ≡ d *ℤ s → x ≡ d *ℤ t → v *ℤ y ≡ d *ℤ (t *ℤ u -ℤ s)
same_rest d s t x y u v e f =
    ring (x ∷ u ∷ y ∷ v ∷ []) (var 3 ⊗ var 2) (var 0 ⊗ var 1 ⊖ (var 0 ⊗ var 1 ⊖ var 2 ⊗ var 3)) refl
    ∙ ap (λ k. x *ℤ u -ℤ k) e
    ∙ ap (λ k. k *ℤ u -ℤ d *ℤ s) f
    ∙ ring (d ∷ s ∷ t ∷ u ∷ []) ((var 0 ⊗ var 2) ⊗ var 3 ⊖ var 0 ⊗ var 1) (var 0 ⊗ (var 2 ⊗ var 3 ⊖ var 1)) refl

-- what divides x*u - y*v and y divides u, and what divides x divides v
first_of : (d : ℕ) (x y u v : ℤ) → gcd x y ≡ pos 1 → Multiple (pos d) y → Multiple (pos d) (x *ℤ u -ℤ y *ℤ v) → Multiple (pos d) u
first_of d x y u v one m p =
    cancelled d x y u one
    (record { times = p.times +ℤ m.times *ℤ v; is = same_sum (pos d) p.times m.times x y u v p.is m.is })
    (times-multiple (pos d) y u m)

second_of : (d : ℕ) (x y u v : ℤ) → gcd x y ≡ pos 1 → Multiple (pos d) x → Multiple (pos d) (x *ℤ u -ℤ y *ℤ v) → Multiple (pos d) v
second_of d x y u v one m p =
    cancelled d x y v one (times-multiple (pos d) x v m)
    (record { times = m.times *ℤ u -ℤ p.times; is = same_rest (pos d) p.times m.times x y u v p.is m.is })

-- ---- lists

module _ (d : ℕ) (x y : ℤ) (one : gcd x y ≡ pos 1) where
  pub firsts : (r s : List ℤ) → length r ≡ length s → Multiple (pos d) y → AllByRecursion (Multiple (pos d)) (combine x r y s) → AllByRecursion (Multiple (pos d)) r
  firsts [] s e m all = tt
  firsts (u ∷ r) [] e m all = absurd (omega arith)
  firsts (u ∷ r) (v ∷ s) e m all = (first_of d x y u v one m all.0, firsts r s (omega arith) m all.1)

  pub seconds : (r s : List ℤ) → length r ≡ length s → Multiple (pos d) x → AllByRecursion (Multiple (pos d)) (combine x r y s) → AllByRecursion (Multiple (pos d)) s
  seconds r [] e m all = tt
  seconds [] (v ∷ s) e m all = absurd (omega arith)
  seconds (u ∷ r) (v ∷ s) e m all = (second_of d x y u v one m all.0, seconds r s (omega arith) m all.1)

  -- the same but for a place
  pub firsts_but : (r s : List ℤ) (c : ℕ) (z : ℤ) → length r ≡ length s → Multiple (pos d) y → Multiple (pos d) (entry r c)
      → AllByRecursion (Multiple (pos d)) (slice_set (combine x r y s) c z) → AllByRecursion (Multiple (pos d)) r
  firsts_but [] s c z e m at all = tt
  firsts_but (u ∷ r) [] c z e m at all = absurd (omega arith)
  firsts_but (u ∷ r) (v ∷ s) zero z e m at all = (at, firsts r s (omega arith) m all.1)
  firsts_but (u ∷ r) (v ∷ s) (suc c) z e m at all = (first_of d x y u v one m all.0, firsts_but r s c z (omega arith) m at all.1)

  pub seconds_but : (r s : List ℤ) (c : ℕ) (z : ℤ) → length r ≡ length s → Multiple (pos d) x → Multiple (pos d) (entry s c)
      → AllByRecursion (Multiple (pos d)) (slice_set (combine x r y s) c z) → AllByRecursion (Multiple (pos d)) s
  seconds_but r [] c z e m at all = tt
  seconds_but [] (v ∷ s) c z e m at all = absurd (omega arith)
  seconds_but (u ∷ r) (v ∷ s) zero z e m at all = (at, seconds r s (omega arith) m all.1)
  seconds_but (u ∷ r) (v ∷ s) (suc c) z e m at all = (second_of d x y u v one m all.0, seconds_but r s c z (omega arith) m at all.1)

  -- the number at the place
  pub at_place : (r s : List ℤ) (c : ℕ) (z : ℤ) → length r ≡ length s → c < length s
      → AllByRecursion (Multiple (pos d)) (slice_set (combine x r y s) c z) → Multiple (pos d) z
  at_place (u ∷ r) (v ∷ s) zero z e h all = all.0
  at_place (u ∷ r) (v ∷ s) (suc c) z e h all = at_place r s c z (omega arith) (omega arith) all.1
  at_place _ _ c z e h all = absurd (omega arith)

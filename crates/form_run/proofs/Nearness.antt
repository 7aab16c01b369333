-- A block of forms that was looked at, and how far the vertex may go before one of them can be below 0.
use Rattle.form_run.proofs.Words.{◌≡◌, ◌∙◌, refl, ap, sym, subst, ℕ, suc, ◌+◌, ◌*◌, ◌<◌, ◌≤◌, ℤ, pos, ◌+ℤ◌, ◌-ℤ◌, ◌*ℤ◌, ◌≤ℤ◌, unsigned_abs, arith, ints, ◌⊎◌, inl, inr, List, [], ◌∷◌, length, take, entry, dot, mul-le, norm, Mark, IsMark, IsMarkOf, StaysAbove, value_at}
use Rattle.pip_model.proofs.Polynomials.{var, num, ◌⊕◌, ◌⊖◌, ◌⊗◌, ring}
use Rattle.std.proofs.lemmas.Bool.{cases_eq}
use Rattle.pip_model.proofs.Order.{mul_nn, factor_nn}
use Rattle.form_laws.proofs.Sizes.{size_sum, size_product, spread}

-- a sum of products against two vertices, each over the other's scale
sums_near : (s0 s : ℤ) (d : ℕ) (f here there : List ℤ) → length there ≡ length here → ((i : ℕ) → i < length here → unsigned_abs (entry here i *ℤ s0 -ℤ entry there i *ℤ s) ≤ d)
    → unsigned_abs (s0 *ℤ dot f here -ℤ s *ℤ dot f there) ≤ norm (take (length here) f) * d
sums_near s0 s d [] here there e near = let none : s0 *ℤ pos 0 -ℤ s *ℤ pos 0 ≡ pos 0 = ring (s0 ∷ s ∷ []) (var 0 ⊗ num (pos 0) ⊖ var 1 ⊗ num (pos 0)) (num (pos 0)) refl in rw none (omega arith)
sums_near s0 s d (z ∷ f) [] [] e near = let none : s0 *ℤ pos 0 -ℤ s *ℤ pos 0 ≡ pos 0 = ring (s0 ∷ s ∷ []) (var 0 ⊗ num (pos 0) ⊖ var 1 ⊗ num (pos 0)) (num (pos 0)) refl in rw none (omega arith)
sums_near s0 s d (z ∷ f) [] (y ∷ there) e near = absurd (omega (arith, e))
sums_near s0 s d (z ∷ f) (x ∷ here) [] e near = absurd (omega (arith, e))
sums_near s0 s d (z ∷ f) (x ∷ here) (y ∷ there) e near =
    let parts : s0 *ℤ (z *ℤ x +ℤ dot f here) -ℤ s *ℤ (z *ℤ y +ℤ dot f there) ≡ z *ℤ (x *ℤ s0 -ℤ y *ℤ s) +ℤ (s0 *ℤ dot f here -ℤ s *ℤ dot f there)
    = ring (s0 ∷ s ∷ z ∷ x ∷ y ∷ dot f here ∷ dot f there ∷ []) (var 0 ⊗ (var 2 ⊗ var 3 ⊕ var 5) ⊖ var 1 ⊗ (var 2 ⊗ var 4 ⊕ var 6)) (var 2 ⊗ (var 3 ⊗ var 0 ⊖ var 4 ⊗ var 1) ⊕ (var 0 ⊗ var 5 ⊖ var 1 ⊗ var 6)) refl in
    rw parts (omega (
      arith,
      size_sum (z *ℤ (x *ℤ s0 -ℤ y *ℤ s)) (s0 *ℤ dot f here -ℤ s *ℤ dot f there),
      size_product z (x *ℤ s0 -ℤ y *ℤ s) d (near 0 (omega arith)),
      sums_near s0 s d f here there (omega (arith, e)) (λ i lt. near (suc i) (omega (arith, lt))),
      spread (unsigned_abs z) (norm (take (length here) f)) d,
    ))

scaled : (s a b : ℤ) → pos 1 ≤ℤ s → a ≤ℤ b → (s *ℤ a) ≤ℤ (s *ℤ b)
scaled s a b some le =
    let parts : s *ℤ (b -ℤ a) ≡ s *ℤ b -ℤ s *ℤ a = ring (s ∷ a ∷ b ∷ []) (var 0 ⊗ (var 2 ⊖ var 1)) (var 0 ⊗ var 2 ⊖ var 0 ⊗ var 1) refl in
    omega (arith, ints, parts, mul_nn s (b -ℤ a) (omega (arith, ints, some)) (omega (arith, ints, le)))

-- no form of the mark's block is below 0 at a vertex that is near enough
pub stays : (n : ℕ) (m : Mark) (here f : List ℤ) (s : ℤ) → length here ≡ n → pos 1 ≤ℤ s → IsMark n m → IsMarkOf n m f → StaysAbove m here s → pos 0 ≤ℤ (value_at n here s f)
stays n m here f s e some mark of near =
    let there = m.vertex.items in
    let far = sums_near m.scale s near.distance f here there (mark.size ∙ sym e) near.near in
    let front : norm (take (length here) f) * near.distance ≤ m.norm * near.distance = mul-le (norm (take (length here) f)) near.distance m.norm near.distance (subst (λ (k : ℕ). norm (take k f) ≤ m.norm) (sym e) of.norm) (omega arith) in
    let turn : m.norm * near.distance ≡ near.distance * m.norm = grind arith in
    let parts : m.scale *ℤ value_at n here s f ≡ (m.scale *ℤ dot f here -ℤ s *ℤ dot f there) +ℤ s *ℤ value_at n there m.scale f
    = ring (m.scale ∷ s ∷ dot f here ∷ dot f there ∷ entry f n ∷ []) (var 0 ⊗ (var 2 ⊕ var 1 ⊗ var 4)) ((var 0 ⊗ var 2 ⊖ var 1 ⊗ var 3) ⊕ var 1 ⊗ (var 3 ⊕ var 0 ⊗ var 4)) refl in
    let more : (s *ℤ m.least) ≤ℤ (s *ℤ value_at n there m.scale f) = scaled s m.least (value_at n there m.scale f) some of.value in
    factor_nn m.scale (value_at n here s f) (omega (arith, ints, mark.scale)) (rw parts (omega (arith, ints, far, front, turn, near.enough, more)))

-- none of the first numbers is above the greatest of them, one after another
pub near_more : (P : ℕ → ℕ) (i most here now : ℕ) → ((k : ℕ) → k < i → P k ≤ most) → P i ≡ here → most ≤ now → here ≤ now → (k : ℕ) → k < i + 1 → P k ≤ now
near_more P i most here now before is le this k lt = by (cases_eq k i)
  where
    by : (k ≡ i) ⊎ (k ≡ i → ⊥) → P k ≤ now
    by (inl e) = omega (arith, ap P e, is, this)
    by (inr not) = omega (arith, before k (omega (arith, lt, not)), le)

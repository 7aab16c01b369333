-- The places at which numbers are not 0.
use Rattle.std.proofs.Common.{◌≡◌, refl, ap, sym, ◌∙◌, ℕ, zero, suc, ◌+◌, ◌<◌, ◌≤◌, ℤ, pos, negsuc, Bool, true, false, List, [], ◌∷◌, ◌++◌, length, take, get_or, map, arith, add-one}
use Rattle.std.specs.Prelude.{All, if◌then◌else◌}
use Rattle.std.proofs.Math.ListN.{get_or-map}
use Rattle.std.proofs.lemmas.List.{get_or_default, length-map, map-append, take_more}
use Rattle.std.proofs.lemmas.List.Elements.{All-push, All-same}
use Rattle.pip_model.specs.Numbers.{is_zero}
use Rattle.short_numbers.specs.Short.{IsHalf}
use Rattle.short_numbers.specs.Nonzeros.{nonzeros, AreNonzeros}

abbrev pub with_first : Bool → List ℕ → List ℕ
with_first none places = if none then map suc places else zero ∷ map suc places

length_first : (none : Bool) (places : List ℕ) (n : ℕ) → length places ≤ n → length (with_first none places) ≤ suc n
length_first true places n h = rw (length-map places suc) (omega (arith, h))
length_first false places n h = rw (length-map places suc) (omega (arith, h))

pub nonzeros_length : (s : List ℤ) → length (nonzeros s) ≤ length s
nonzeros_length [] = omega arith
nonzeros_length (z ∷ s) = length_first (is_zero z) (nonzeros s) (length s) (nonzeros_length s)

zero_more : (s : List ℤ) (i : ℕ) → i < length s → get_or s i (pos 0) ≡ pos 0 → nonzeros (take (suc i) s) ≡ nonzeros (take i s)
zero_more [] i h e = absurd (omega arith)
zero_more (z ∷ s) zero h e = rw e refl
zero_more (z ∷ s) (suc i) h e = ap (with_first (is_zero z)) (zero_more s i (omega arith) e)

single : (z : ℤ) → ¬ z ≡ pos 0 → with_first (is_zero z) [] ≡ zero ∷ []
single (pos zero) e = absurd (e refl)
single (pos (suc n)) e = refl
single (negsuc n) e = refl

first_more : (none : Bool) (places : List ℕ) (i : ℕ) → with_first none (places ++ i ∷ []) ≡ with_first none places ++ suc i ∷ []
first_more true places i = map-append suc places (i ∷ [])
first_more false places i = ap (λ xs. zero ∷ xs) (map-append suc places (i ∷ []))

nonzero_more : (s : List ℤ) (i : ℕ) → i < length s → ¬ get_or s i (pos 0) ≡ pos 0 → nonzeros (take (suc i) s) ≡ nonzeros (take i s) ++ i ∷ []
nonzero_more [] i h e = absurd (omega arith)
nonzero_more (z ∷ s) zero h e = single z e
nonzero_more (z ∷ s) (suc i) h e = ap (with_first (is_zero z)) (nonzero_more s i (omega arith) e) ∙ first_more (is_zero z) (nonzeros (take i s)) i

-- one number more
module _ (s : List ℤ) (i : ℕ) (places : List ℕ) (h : i < length s) (before : AreNonzeros (take i s) places) where
  half_more : IsHalf (get_or s i (pos 0)) → All IsHalf (take (i + 1) s)
  half_more half = All-same IsHalf _ _ (take_more s i (pos 0) h) (All-push IsHalf _ _ before.half half)

  pub more_zero : get_or s i (pos 0) ≡ pos 0 → AreNonzeros (take (i + 1) s) places
  more_zero e = record { list = rw (add-one i) (before.list ∙ sym (zero_more s i h e)); half = half_more (rw e (omega arith)) }

  pub more_nonzero : IsHalf (get_or s i (pos 0)) → ¬ get_or s i (pos 0) ≡ pos 0 → AreNonzeros (take (i + 1) s) (places ++ i ∷ [])
  more_nonzero half e = record { list = rw (add-one i) (ap (λ xs. xs ++ i ∷ []) before.list ∙ sym (nonzero_more s i h e)); half = half_more half }

-- ---- place k of the list, and behind all of them the end

abbrev pub reached : List ℤ → ℕ → ℕ
reached s k = get_or (nonzeros s) k (length s)

within_first : (none : Bool) (places : List ℕ) (k n : ℕ) → ((k : ℕ) → k < length places → get_or places k n < n) → k < length (with_first none places) → get_or (with_first none places) k (suc n) < suc n
within_first true places k n f h = let here = f k (rw (sym (length-map places suc)) h) in rw (get_or-map suc places k n) (omega (arith, here))
within_first false places zero n f h = omega arith
within_first false places (suc k) n f h = let here = f k (rw (sym (length-map places suc)) (omega (arith, h))) in rw (get_or-map suc places k n) (omega (arith, here))

pub reached_within : (s : List ℤ) (k : ℕ) → k < length (nonzeros s) → reached s k < length s
reached_within [] k h = absurd (omega arith)
reached_within (z ∷ s) k h = within_first (is_zero z) (nonzeros s) k (length s) (reached_within s) h

-- the same in a list of them
module _ (s : List ℤ) (places : List ℕ) (k : ℕ) (h : AreNonzeros s places) (less : k < length places) where
  pub listed_at : k < length (nonzeros s)
  listed_at = rw (sym h.list) less

  pub listed_reached : get_or places k 0 ≡ reached s k
  listed_reached = rw h.list (get_or_default (nonzeros s) k 0 (length s) listed_at)

  pub listed_within : get_or places k 0 < length s
  listed_within = rw listed_reached (reached_within s k listed_at)

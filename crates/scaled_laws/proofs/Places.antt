-- Lists made by their places.
use Rattle.scaled_laws.proofs.Words.{◌≡◌, ◌∙◌, refl, ap, ℕ, zero, suc, ◌+◌, ◌<◌, ◌≤◌, arith, List, ◌∷◌, length, take, map, All, All-nil, All-cons, Row, row_at, count_from}

pub length_made : {X : Type 0} (g : ℕ → X) (i k : ℕ) → length (map g (count_from i k)) ≡ k
length_made g i zero = refl
length_made g i (suc k) = ap suc (length_made g (i + 1) k)

made_from : (g : ℕ → Row) (i k j : ℕ) → j < k → row_at (map g (count_from i k)) j ≡ g (i + j)
made_from g i zero j h = absurd (omega arith)
made_from g i (suc k) zero h = let e : i ≡ i + 0 = omega arith in ap g e
made_from g i (suc k) (suc j) h = let e : (i + 1) + j ≡ i + suc j = omega arith in made_from g (i + 1) k j (omega arith) ∙ ap g e

pub row_made : (g : ℕ → Row) (k j : ℕ) → j < k → row_at (map g (count_from 0 k)) j ≡ g j
row_made g k j h = let e : 0 + j ≡ j = omega arith in made_from g 0 k j h ∙ ap g e

take_from : {X : Type 0} (g : ℕ → X) (i k n : ℕ) → n ≤ k → take n (map g (count_from i k)) ≡ map g (count_from i n)
take_from g i k zero h = refl
take_from g i zero (suc n) h = absurd (omega arith)
take_from g i (suc k) (suc n) h = ap (λ (xs : List _). g i ∷ xs) (take_from g (i + 1) k n (omega arith))

pub take_made : {X : Type 0} (g : ℕ → X) (k n : ℕ) → n ≤ k → take n (map g (count_from 0 k)) ≡ map g (count_from 0 n)
take_made g k n h = take_from g 0 k n h

same_from : {X : Type 0} (f g : ℕ → X) (i k : ℕ) → ((j : ℕ) → i ≤ j → j < i + k → f j ≡ g j) → map f (count_from i k) ≡ map g (count_from i k)
same_from f g i zero e = refl
same_from f g i (suc k) e = rw (e i (omega arith) (omega arith), same_from f g (i + 1) k (λ j le lt. e j (omega (arith, le)) (omega (arith, lt)))) refl

pub same_made : {X : Type 0} (f g : ℕ → X) (k : ℕ) → ((j : ℕ) → j < k → f j ≡ g j) → map f (count_from 0 k) ≡ map g (count_from 0 k)
same_made f g k e = same_from f g 0 k (λ j le lt. e j (omega (arith, lt)))

map_from : {X Y : Type 0} (f : X → Y) (g : ℕ → X) (i k : ℕ) → map f (map g (count_from i k)) ≡ map (λ j. f (g j)) (count_from i k)
map_from f g i zero = refl
map_from f g i (suc k) = ap (λ (ys : List _). f (g i) ∷ ys) (map_from f g (i + 1) k)

pub map_made : {X Y : Type 0} (f : X → Y) (g : ℕ → X) (k : ℕ) → map f (map g (count_from 0 k)) ≡ map (λ j. f (g j)) (count_from 0 k)
map_made f g k = map_from f g 0 k

all_from : {X : Type 0} (g : ℕ → X) (P : X → Type 0) (i c : ℕ) → ((j : ℕ) → i ≤ j → j < i + c → P (g j)) → All P (map g (count_from i c))
all_from g P i zero all = All-nil P
all_from g P i (suc c) all = All-cons P (g i) (map g (count_from (i + 1) c)) (all i (omega arith) (omega arith)) (all_from g P (i + 1) c (λ j le lt. all j (omega (arith, le)) (omega (arith, lt))))

pub all_made : {X : Type 0} (g : ℕ → X) (P : X → Type 0) (c : ℕ) → ((j : ℕ) → j < c → P (g j)) → All P (map g (count_from 0 c))
all_made g P c all = all_from g P 0 c (λ j le lt. all j (omega (arith, lt)))

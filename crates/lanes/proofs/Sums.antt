-- Sums of products, signs and sizes, number after number.
use Rattle.lanes.proofs.Words.{◌≡◌, ◌∙◌, refl, ap, sym, subst, ℕ, zero, suc, ◌+◌, ◌^◌, ◌<◌, ◌≤◌, ℤ, pos, negsuc, ◌+ℤ◌, ◌*ℤ◌, ◌≤ℤ◌, unsigned_abs, arith, Bool, true, List, [], ◌∷◌, length, take, All, ◌&&◌, list_all, ints, take_all, is_nonneg, entry, dot, IsSummable}
use Rattle.std.proofs.lemmas.List.Elements.{All-more, All-weaker}
use Rattle.std.proofs.lemmas.List.Folds.{list_all_more}

-- ---- sums

dot_more : (f c : List ℤ) (i : ℕ) → i < length c → i < length f → dot f (take (i + 1) c) ≡ dot f (take i c) +ℤ entry f i *ℤ entry c i
dot_more [] c i h k = absurd (omega arith)
dot_more (x ∷ f) [] i h k = absurd (omega arith)
dot_more (x ∷ f) (z ∷ c) zero h k = first f (x *ℤ z)
  where
    first : (f : List ℤ) (p : ℤ) → p +ℤ dot f [] ≡ pos 0 +ℤ p
    first [] p = omega (arith, ints)
    first (y ∷ f) p = omega (arith, ints)
dot_more (x ∷ f) (z ∷ c) (suc i) h k =
    let e : suc i + 1 ≡ suc (i + 1) = omega arith in
    rw e (further (x *ℤ z) (dot f (take (i + 1) c)) (dot f (take i c)) (entry f i *ℤ entry c i) (dot_more f c i (omega arith) (omega arith)))
  where
    further : (p a b q : ℤ) → a ≡ b +ℤ q → p +ℤ a ≡ p +ℤ b +ℤ q
    further p a b q e = omega (arith, ints, e)

pub sum_none : (xs ys : List ℤ) → pos 0 ≡ dot xs (take 0 ys)
sum_none [] ys = refl
sum_none (x ∷ xs) ys = refl

pub sum_next : (xs ys : List ℤ) (k : ℕ) (sum : ℤ) → length xs ≡ length ys → k < length xs → sum ≡ dot xs (take k ys) → sum +ℤ entry xs k *ℤ entry ys k ≡ dot xs (take (k + 1) ys)
sum_next xs ys k sum long lt e = ap (λ (z : ℤ). z +ℤ entry xs k *ℤ entry ys k) e ∙ sym (dot_more xs ys k (omega (arith, long, lt)) lt)

pub sum_narrow : (xs ys : List ℤ) (k : ℕ) (sum : ℤ) → length xs ≡ length ys → k < length xs → sum ≡ dot xs (take k ys) → IsSummable xs ys → unsigned_abs (sum +ℤ entry xs k *ℤ entry ys k) < 2 ^ 31
sum_narrow xs ys k sum long lt e h = subst (λ (z : ℤ). unsigned_abs z < 2 ^ 31) (sym (sum_next xs ys k sum long lt e)) (h.sums (k + 1))

pub sum_all : (xs ys : List ℤ) (k : ℕ) → length ys ≤ k → dot xs (take k ys) ≡ dot xs ys
sum_all xs ys k le = ap (dot xs) (take_all k ys le)

-- ---- signs

pub nonneg_next : (zs : List ℤ) (k : ℕ) (all here : Bool) → k < length zs → all ≡ list_all is_nonneg (take k zs) → here ≡ is_nonneg (entry zs k) → (all && here) ≡ list_all is_nonneg (take (k + 1) zs)
nonneg_next zs k all here lt e f =
    ap (λ (b : Bool). b && here) e ∙ ap (λ (b : Bool). list_all is_nonneg (take k zs) && b) f ∙ sym (list_all_more is_nonneg zs k (pos 0) lt)

pub nonneg_all : (zs : List ℤ) (k : ℕ) → length zs ≤ k → list_all is_nonneg (take k zs) ≡ list_all is_nonneg zs
nonneg_all zs k le = ap (list_all is_nonneg) (take_all k zs le)

nowhere : (zs : List ℤ) → ((j : ℕ) → j < length zs → pos 0 ≤ℤ entry zs j) → list_all is_nonneg zs ≡ true
nowhere [] h = refl
nowhere (pos n ∷ zs) h = nowhere zs (λ j lt. h (suc j) (omega (arith, lt)))
nowhere (negsuc n ∷ zs) h = let none : pos 0 ≤ℤ negsuc n = h 0 (omega arith) in absurd (omega (arith, ints, none))

pub nowhere_below : (zs : List ℤ) (k : ℕ) → length zs ≤ k → ((j : ℕ) → j < k → pos 0 ≤ℤ entry zs j) → list_all is_nonneg zs ≡ true
nowhere_below zs k le h = nowhere zs (λ j lt. h j (omega (arith, lt, le)))

-- ---- sizes

pub sizes_more : (zs : List ℤ) (i m g : ℕ) → i < length zs → All (λ z. unsigned_abs z ≤ m) (take i zs) → m ≤ g → unsigned_abs (entry zs i) ≤ g → All (λ z. unsigned_abs z ≤ g) (take (i + 1) zs)
sizes_more zs i m g lt h le one = All-more (λ z. unsigned_abs z ≤ g) zs i (pos 0) lt (All-weaker (λ z. unsigned_abs z ≤ m) (λ z. unsigned_abs z ≤ g) (λ z k. omega (arith, k, le)) (take i zs) h) one

pub sizes_all : (zs : List ℤ) (k m : ℕ) → length zs ≤ k → All (λ z. unsigned_abs z ≤ m) (take k zs) → All (λ z. unsigned_abs z ≤ m) zs
sizes_all zs k m le h = subst (All (λ z. unsigned_abs z ≤ m)) (take_all k zs le) h

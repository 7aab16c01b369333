-- Greatest common divisors: of natural numbers, of integers, of lists; of multiples, and what is left in lowest terms.
use Rattle.pip_model.proofs.Words.{◌≡◌, ◌∙◌, refl, ap, sym, subst, ℕ, zero, suc, ◌+◌, ◌*◌, ◌/◌, ◌%◌, ◌<◌, ◌≤◌, ℤ, pos, negsuc, neg_ℤ, ◌≤ℤ◌, nat_abs, unsigned_abs, arith, List, [], ◌∷◌, length, ints, unsigned_abs-mul, IsGcd-swap, IsGcd-from_zero, IsGcd-from_mod, same_from_IsGcd, mod-eq-zero_of_dvd, le_of_dvd, dvd_refl, dvd_trans, dvd_antisymm, div-add-mod, mod-lt, mul-add-mod_self_left, mod-eq_of_lt, mul-lt-mul_of_pos_left, one-dvd, pos_of_dvd_of_pos, dvd-mul_right, IsGcd, ◌∣◌, slice_set, AllByRecursion, floor_div, euclid, gcd, gcd_of, entry, negate, remove, floor_divided}
use Rattle.pip_model.proofs.Division.{Multiple, signed, gcd-divides, gcd_of-divides, all_through, floor-exact, gcd_of-natural, euclid-IsGcd}

-- ---- natural numbers

-- the greatest common divisor, as `gcd` computes it
abbrev pub common : ℕ → ℕ → ℕ
common a b = euclid (b + 1) a b

pub common-IsGcd : (a b : ℕ) → IsGcd a b (common a b)
common-IsGcd a b = euclid-IsGcd (b + 1) a b (omega arith)

pub euclid_only : (a b g : ℕ) → IsGcd a b g → g ≡ common a b
euclid_only a b g h = same_from_IsGcd a b g _ h (common-IsGcd a b)

pub euclid_below : (a b n : ℕ) → a < n → b < n → euclid (b + 1) a b < n
euclid_below zero zero n h k = h
euclid_below (suc a) b n h k = let le = le_of_dvd (omega arith) (common-IsGcd (suc a) b).0 in omega arith
euclid_below zero (suc b) n h k = let le = le_of_dvd (omega arith) (common-IsGcd zero (suc b)).1 in omega arith

common-assoc : (a b c : ℕ) → common (common a b) c ≡ common a (common b c)
common-assoc a b c =
    let p = common-IsGcd a b in
    let q = common-IsGcd (common a b) c in
    let r = common-IsGcd b c in
    let k = common (common a b) c in
    euclid_only a (common b c) k (dvd_trans k q.0 p.0, r.2 k (dvd_trans k q.0 p.1) q.1, λ d x y. q.2 d (p.2 d x (dvd_trans d y r.0)) (dvd_trans d y r.1))

common-one : (b : ℕ) → common 1 b ≡ 1
common-one b = dvd_antisymm (common-IsGcd 1 b).0 ((common-IsGcd 1 b).2 1 (dvd_refl 1) (one-dvd b))

euclid-done : (steps a : ℕ) → euclid steps a 0 ≡ a
euclid-done _ a = refl

pub euclid-zero : (steps b : ℕ) → 0 < steps → euclid steps 0 b ≡ b
euclid-zero zero b h = absurd (omega arith)
euclid-zero (suc steps) zero h = refl
euclid-zero (suc steps) (suc b) h =
    let none : 0 % suc b ≡ 0 = omega arith in
    ap (euclid steps (suc b)) none ∙ euclid-done steps (suc b)

-- x*a over x*b leaves x times what a leaves over b
scaled-mod : (x a b : ℕ) → 0 < x → 0 < b → (x * a) % (x * b) ≡ x * (a % b)
scaled-mod x a b h k =
    let whole : x * a ≡ x * b * (a / b) + x * (a % b) = omega (arith, ap (λ n. x * n) (div-add-mod a b)) in
    ap (λ n. n % (x * b)) whole ∙ mul-add-mod_self_left (x * b) (a / b) (x * (a % b)) ∙ mod-eq_of_lt (mul-lt-mul_of_pos_left (mod-lt a k) h)

-- the divisor of multiples is the multiple of the divisor
pub euclid-scaled : (x steps a b : ℕ) → 0 < x → b < steps → IsGcd (x * a) (x * b) (x * euclid steps a b)
euclid-scaled x zero a b k h = absurd (omega arith)
euclid-scaled x (suc steps) a zero k h = IsGcd-from_zero (x * a) (x * 0) (omega arith)
euclid-scaled x (suc steps) a (suc b) k h =
    let below : a % suc b < suc b = mod-lt a (omega arith) in
    let rest = euclid-scaled x steps (suc b) (a % suc b) k (omega arith) in
    IsGcd-from_mod (x * a) (x * suc b) _ (subst (λ r. IsGcd (x * suc b) r (x * euclid steps (suc b) (a % suc b))) (sym (scaled-mod x a (suc b) k (omega arith))) rest)

pub common-scaled : (x a b : ℕ) → 0 < x → common (x * a) (x * b) ≡ x * common a b
common-scaled x a b h = sym (euclid_only (x * a) (x * b) (x * common a b) (euclid-scaled x (b + 1) a b h (omega arith)))

pub times-one : (g k : ℕ) → 0 < g → g * k ≡ g → k ≡ 1
times-one g (suc zero) h e = refl
times-one g _ h e = absurd (omega arith)

-- ---- integers

pub gcd_assoc : (a b c : ℤ) → gcd (gcd a b) c ≡ gcd a (gcd b c)
gcd_assoc a b c = ap pos (common-assoc (unsigned_abs a) (unsigned_abs b) (unsigned_abs c))

gcd_comm : (a b : ℤ) → gcd a b ≡ gcd b a
gcd_comm a b = ap pos (euclid_only (unsigned_abs b) (unsigned_abs a) (common (unsigned_abs a) (unsigned_abs b)) (IsGcd-swap _ _ _ (common-IsGcd (unsigned_abs a) (unsigned_abs b))))

gcd_swap : (a b z : ℤ) → gcd a (gcd b z) ≡ gcd b (gcd a z)
gcd_swap a b z = sym (gcd_assoc a b z) ∙ ap (λ g. gcd g z) (gcd_comm a b) ∙ gcd_assoc b a z

pub size_opposite : (x : ℤ) → unsigned_abs (neg_ℤ x) ≡ unsigned_abs x
size_opposite x = omega (arith, ints)

pub gcd_opposite : (x z : ℤ) → gcd (neg_ℤ x) z ≡ gcd x z
gcd_opposite x z = rw (size_opposite x) refl

pub gcd_one : (z : ℤ) → gcd (pos 1) z ≡ pos 1
gcd_one z = ap pos (common-one (unsigned_abs z))

pub gcd-zero : (n : ℕ) → gcd (pos 0) (pos n) ≡ pos n
gcd-zero n = ap pos (euclid-zero (n + 1) n (omega arith))

-- the greatest common divisor of a number from 1 on
pub gcd_between : (a b : ℤ) → pos 1 ≤ℤ a → (pos 1 ≤ℤ gcd a b) × (gcd a b ≤ℤ a)
gcd_between (negsuc n) b h = absurd (omega (arith, ints))
gcd_between (pos n) b h =
    let le : common n (unsigned_abs b) ≤ n = le_of_dvd (omega (arith, ints)) (common-IsGcd n (unsigned_abs b)).0 in
    (omega (arith, ints, (pos_of_dvd_of_pos (common-IsGcd n (unsigned_abs b)).0 (omega (arith, ints)))), omega (arith, ints, le))

some_quotient : (n g q r : ℕ) → g * q + r ≡ n → r < g → g ≤ n → 0 < q
some_quotient n g zero r e lt le = absurd (omega arith)
some_quotient n g (suc q) r e lt le = omega arith

-- a smaller number goes at least once into one from 1 on
pub quotient_positive : (a d : ℤ) → pos 1 ≤ℤ d → d ≤ℤ a → pos 1 ≤ℤ floor_div a d
quotient_positive (pos n) (pos g) h le =
    omega (arith, ints, (some_quotient n g (n / g) (n % g) (div-add-mod n g) (mod-lt n (omega (arith, ints))) (omega (arith, ints, le))))
quotient_positive _ _ h le = absurd (omega (arith, ints))

pub multiple-dvd : (d : ℕ) (x : ℤ) → Multiple (pos d) x → d ∣ nat_abs x
multiple-dvd d x m = subst (λ (n : ℕ). d ∣ n) (sym (ap nat_abs m.is ∙ unsigned_abs-mul (pos d) m.times)) (dvd-mul_right d (nat_abs m.times))

pub dvd-multiple : (d : ℕ) (x : ℤ) → d ∣ nat_abs x → Multiple (pos d) x
dvd-multiple d x h = signed d x (record { times = nat_abs x / d; is = omega (arith, div-add-mod (nat_abs x) d, mod-eq-zero_of_dvd d h) })

pub gcd-greatest : (d : ℕ) (a b : ℤ) → Multiple (pos d) a → Multiple (pos d) b → Multiple (pos d) (gcd a b)
gcd-greatest d a b p q = dvd-multiple d (gcd a b) ((common-IsGcd (nat_abs a) (nat_abs b)).2 d (multiple-dvd d a p) (multiple-dvd d b q))

-- ---- lists

pub gcd_of-greatest : (d : ℕ) (cs : List ℤ) → AllByRecursion (Multiple (pos d)) cs → Multiple (pos d) (gcd_of cs)
gcd_of-greatest d [] all = record { times = pos 0; is = omega (arith, ints) }
gcd_of-greatest d (c ∷ cs) all = gcd-greatest d c (gcd_of cs) all.0 (gcd_of-greatest d cs all.1)

-- the divisor of a list, begun at 0
pub gcd_zero : (xs : List ℤ) → gcd (pos 0) (gcd_of xs) ≡ gcd_of xs
gcd_zero xs = let g = gcd_of-natural xs in rw g.1 (gcd-zero g.0)

pub gcd_of_negate : (xs : List ℤ) → gcd_of (negate xs) ≡ gcd_of xs
gcd_of_negate [] = refl
gcd_of_negate (x ∷ xs) = gcd_opposite x (gcd_of (negate xs)) ∙ ap (gcd x) (gcd_of_negate xs)

-- a number that changes places with an entry
pub gcd_exchanged : (d : ℤ) (xs : List ℤ) (c : ℕ) → c < length xs → gcd (entry xs c) (gcd_of (slice_set xs c d)) ≡ gcd d (gcd_of xs)
gcd_exchanged d [] c h = absurd (omega arith)
gcd_exchanged d (x ∷ xs) zero h = gcd_swap x d (gcd_of xs)
gcd_exchanged d (x ∷ xs) (suc c) h =
    gcd_swap (entry xs c) x (gcd_of (slice_set xs c d)) ∙ ap (gcd x) (gcd_exchanged d xs c (omega arith)) ∙ gcd_swap x d (gcd_of xs)

pub gcd_of-remove : (q : ℕ) (c : List ℤ) → entry c q ≡ pos 0 → gcd_of (remove q c) ≡ gcd_of c
gcd_of-remove q [] e = refl
gcd_of-remove zero (x ∷ c) e = rw e (sym (gcd_zero c))
gcd_of-remove (suc q) (x ∷ c) e = ap (gcd x) (gcd_of-remove q c e)

-- a multiple's size is as many times its quotient's
pub size-divided : (g : ℕ) (c : ℤ) → 0 < g → Multiple (pos g) c → unsigned_abs c ≡ g * unsigned_abs (floor_div c (pos g))
size-divided g c h m = ap unsigned_abs (floor-exact c g h m) ∙ unsigned_abs-mul (pos g) (floor_div c (pos g))

pub size-gcd_of : (g : ℕ) (cs : List ℤ) → 0 < g → AllByRecursion (Multiple (pos g)) cs → unsigned_abs (gcd_of cs) ≡ g * unsigned_abs (gcd_of (floor_divided (pos g) cs))
size-gcd_of g [] h all = omega arith
size-gcd_of g (c ∷ cs) h all = rw (size-divided g c h all.0, size-gcd_of g cs h all.1) (common-scaled g _ _ h)

-- divided by their greatest common divisor, a number and a list have none but 1
pub lowest : (d : ℤ) (cs : List ℤ) (g : ℕ) → gcd d (gcd_of cs) ≡ pos g → 0 < g → gcd (floor_div d (pos g)) (gcd_of (floor_divided (pos g) cs)) ≡ pos 1
lowest d cs g is h =
    let parts = rw is at (gcd-divides d (gcd_of cs)) in
    let entries = all_through (pos g) (gcd_of cs) cs parts.1 (gcd_of-divides cs) in
    let a = unsigned_abs (floor_div d (pos g)) in
    let b = unsigned_abs (gcd_of (floor_divided (pos g) cs)) in
    let scaled : common (g * a) (g * b) ≡ g = rw (size-divided g d h parts.0, size-gcd_of g cs h entries) at (ap unsigned_abs is) in
    ap pos (times-one g (common a b) h (sym (common-scaled g a b h) ∙ scaled))

-- ---- division by 1

pub div_one : (x : ℤ) → floor_div x (pos 1) ≡ x
div_one (pos n) = omega (arith, ints)
div_one (negsuc n) = omega (arith, ints)

pub floor_divided_one : (xs : List ℤ) → floor_divided (pos 1) xs ≡ xs
floor_divided_one [] = refl
floor_divided_one (x ∷ xs) = rw (div_one x, floor_divided_one xs) refl

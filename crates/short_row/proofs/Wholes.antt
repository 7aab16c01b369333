-- Numbers that are divided by their greatest common divisor.
use Rattle.short_row.proofs.Words.{◌≡◌, refl, ap, sym, ◌∙◌, subst, ℕ, zero, suc, ◌+◌, ◌<◌, ◌≤◌, ℤ, pos, negsuc, ◌≤ℤ◌, ◌*ℤ◌, List, [], ◌∷◌, ◌++◌, length, take, drop, get_or, set, arith, ints, All, All-take, All-same, take_at, take-append-drop, get_or-map, length-map, gcd, gcd_of, gcd_assoc, floor_div, Row, divided, row_of_numbers, IsShort, mapped, add-one, unsigned_abs, unsigned_abs-mul, take-map, drop-map, scale, content, AllByRecursion, All-from_recursion, recursion_from_All, dvd_antisymm, dvd_refl, IsGcd-swap, mapped_read, *ℤ_assoc, common-IsGcd, multiple-dvd, gcd_of-greatest, times-one, content-divides, scaled_front, scale_one, euclid_only}
use Rattle.pip_model.proofs.Division.{Multiple, floor-exact, gcd-divides, gcd_of-divides}
use Rattle.row_laws.proofs.Unchanged.{scaled, content-scaled, divided-scaled}

-- ---- number after number

more_scaled : (d : ℤ) (zs : List ℤ) (i : ℕ) (q : ℤ) → i < length zs → d *ℤ q ≡ get_or zs i (pos 0) → scaled_front d (set zs i q) (suc i) ≡ scaled_front d zs i
more_scaled d [] i q h e = absurd (omega arith)
more_scaled d (z ∷ zs) zero q h e = ap (λ x. x ∷ zs) e
more_scaled d (z ∷ zs) (suc i) q h e = ap (λ xs. (d *ℤ z) ∷ xs) (more_scaled d zs i q (omega arith) e)

-- one number more is divided
pub scaled_step : (d : ℤ) (old now : List ℤ) (i : ℕ) (q : ℤ) → i < length now → scaled_front d now i ≡ old → d *ℤ q ≡ get_or now i (pos 0) → scaled_front d (set now i q) (i + 1) ≡ old
scaled_step d old now i q h e f = rw (add-one i) (more_scaled d now i q h f ∙ e)

zero_scaled : (d : ℤ) (zs : List ℤ) (i : ℕ) → i < length zs → get_or zs i (pos 0) ≡ pos 0 → scaled_front d zs (suc i) ≡ scaled_front d zs i
zero_scaled d [] i h e = absurd (omega arith)
zero_scaled d (z ∷ zs) zero h e = let none : d *ℤ z ≡ z = rw e (omega (arith, ints)) in ap (λ x. x ∷ zs) none
zero_scaled d (z ∷ zs) (suc i) h e = ap (λ xs. (d *ℤ z) ∷ xs) (zero_scaled d zs i (omega arith) e)

-- 0 is divided as it stands
pub scaled_zero : (d : ℤ) (old now : List ℤ) (i : ℕ) → i < length now → scaled_front d now i ≡ old → get_or now i (pos 0) ≡ pos 0 → scaled_front d now (i + 1) ≡ old
scaled_zero d old now i h e f = rw (add-one i) (zero_scaled d now i h f ∙ e)

-- ---- all of them

pub scaled_all : (d : ℤ) (zs : List ℤ) (k : ℕ) → k ≡ length zs → scaled_front d zs k ≡ scale d zs
scaled_all d [] zero h = refl
scaled_all d (z ∷ zs) (suc k) h = ap (λ xs. (d *ℤ z) ∷ xs) (scaled_all d zs k (omega arith))
scaled_all d _ _ h = absurd (omega arith)

-- ---- some are multiplied again

pub scaled_short : (d : ℤ) (old now : List ℤ) (i : ℕ) → i < length old → now ≡ mapped (λ x. d *ℤ x) i old → All IsShort (scale d old) → IsShort (d *ℤ get_or now i (pos 0))
scaled_short d old now i h e all =
    let read : get_or now i (pos 0) ≡ get_or old i (pos 0) = rw e (mapped_read (λ x. d *ℤ x) old i (pos 0) h) in
    subst IsShort (get_or-map (λ x. d *ℤ x) old i (pos 0) (pos 0) h ∙ ap (λ z. d *ℤ z) (sym read)) (all i (pos 0) (simp length-map h))

twice : (d f e z : ℤ) → d ≡ e *ℤ f → e *ℤ (f *ℤ z) ≡ d *ℤ z
twice d f e z g = sym (*ℤ_assoc e f z) ∙ ap (λ x. x *ℤ z) (sym g)

less_there : (d f e q : ℤ) (zs : List ℤ) (i : ℕ) → d ≡ e *ℤ f → i < length zs → e *ℤ q ≡ get_or zs i (pos 0)
    → scaled_front e (set (scale f (take i zs) ++ drop i zs) i q) (suc i) ≡ scaled_front d zs i
less_there d f e q [] i g h k = absurd (omega arith)
less_there d f e q (z ∷ zs) zero g h k = ap (λ x. x ∷ zs) k
less_there d f e q (z ∷ zs) (suc i) g h k = rw (twice d f e z g, less_there d f e q zs i g (omega arith) k) refl

-- by a smaller divisor, and entry i by it
pub scaled_less : (d f e q : ℤ) (zs front rest : List ℤ) (i : ℕ) → d ≡ e *ℤ f → front ≡ scale f (take i zs) → rest ≡ drop i zs → i < length zs → e *ℤ q ≡ get_or zs i (pos 0)
    → scaled_front e (set (front ++ rest) i q) (i + 1) ≡ scaled_front d zs i
scaled_less d f e q zs front rest i g a b h k = rw (a, b, add-one i) (less_there d f e q zs i g h k)

smaller_short : (e x : ℤ) → pos 1 ≤ℤ e → IsShort (e *ℤ x) → IsShort x
smaller_short (pos (suc n)) x h short = let size = unsigned_abs-mul (pos (suc n)) x in omega (arith, size, short)
smaller_short _ x h short = absurd (omega (arith, ints))

-- by a factor of d they are short where they are by d
pub factor_short : (d f e : ℤ) (zs front : List ℤ) (i : ℕ) → d ≡ e *ℤ f → pos 1 ≤ℤ e → front ≡ take i zs → All IsShort (scaled_front d zs i) → All IsShort (scale f front)
factor_short d f e zs front i g h a all =
    rw a (All-from_recursion IsShort _ (each (take i zs) (recursion_from_All IsShort _ (All-same IsShort _ _ (sym (take_at (scale d (take i zs)) (drop i zs) _ refl)) (All-take IsShort _ _ all)))))
  where
    each : (zs : List ℤ) → AllByRecursion IsShort (scale d zs) → AllByRecursion IsShort (scale f zs)
    each [] all = tt
    each (z ∷ zs) all = (smaller_short e (f *ℤ z) h (subst IsShort (sym (twice d f e z g)) all.0), each zs all.1)

-- ---- divisors

exact : (g x : ℤ) → pos 1 ≤ℤ g → Multiple g x → g *ℤ floor_div x g ≡ x
exact (negsuc n) x h m = absurd (omega (arith, ints))
exact (pos n) x h m = sym (floor-exact x n (omega (arith, ints, h)) m)

-- the greatest common divisor leaves nothing of either number
pub gcd_first : (d z g f : ℤ) → pos 1 ≤ℤ g → g ≡ gcd d z → f ≡ floor_div d g → d ≡ g *ℤ f
gcd_first d z g f h e k = sym (ap (λ x. g *ℤ x) k ∙ exact g d h (subst (λ x. Multiple x d) (sym e) (gcd-divides d z).0))

pub gcd_second : (d z g q : ℤ) → pos 1 ≤ℤ g → g ≡ gcd d z → q ≡ floor_div z g → g *ℤ q ≡ z
gcd_second d z g q h e k = ap (λ x. g *ℤ x) k ∙ exact g z h (subst (λ x. Multiple x z) (sym e) (gcd-divides d z).1)

multiple_gcd : (n : ℕ) (z : ℤ) → Multiple (pos n) z → gcd z (pos n) ≡ pos n
multiple_gcd n z m =
    let found = common-IsGcd (unsigned_abs z) n in
    ap pos (dvd_antisymm found.1 (found.2 n (multiple-dvd n z m) (dvd_refl n)))

gcd_comm : (a b : ℤ) → gcd a b ≡ gcd b a
gcd_comm a b = ap pos (euclid_only _ _ _ (IsGcd-swap _ _ _ (common-IsGcd (unsigned_abs a) (unsigned_abs b))))

absorbed : (zs : List ℤ) (i : ℕ) → i < length zs → gcd (get_or zs i (pos 0)) (gcd_of zs) ≡ gcd_of zs
absorbed [] i h = absurd (omega arith)
absorbed (x ∷ xs) i h = multiple_gcd _ (get_or (x ∷ xs) i (pos 0)) (All-from_recursion (Multiple (gcd_of (x ∷ xs))) (x ∷ xs) (gcd_of-divides (x ∷ xs)) i (pos 0) h)

read_front : (d : ℤ) (zs : List ℤ) (i : ℕ) → i < length zs → get_or (scaled_front d zs i) i (pos 0) ≡ get_or zs i (pos 0)
read_front d [] i h = absurd (omega arith)
read_front d (z ∷ zs) zero h = refl
read_front d (z ∷ zs) (suc i) h = read_front d zs i (omega arith)

length_front : (d : ℤ) (zs : List ℤ) (i : ℕ) → length (scaled_front d zs i) ≡ length zs
length_front d [] zero = refl
length_front d [] (suc i) = refl
length_front d (z ∷ zs) zero = refl
length_front d (z ∷ zs) (suc i) = ap suc (length_front d zs i)

-- what entry i and d have in common is a divisor with which the same is found
pub common_less : (d e start : ℤ) (old now : List ℤ) (i : ℕ) → i < length now → scaled_front d now i ≡ old → e ≡ gcd d (get_or now i (pos 0)) → gcd d (gcd_of old) ≡ gcd start (gcd_of old)
    → gcd e (gcd_of old) ≡ gcd start (gcd_of old)
common_less d e start old now i h value f common =
    let size : length old ≡ length now = ap length (sym value) ∙ length_front d now i in
    let here : get_or now i (pos 0) ≡ get_or old i (pos 0) = sym (read_front d now i h) ∙ ap (λ zs. get_or zs i (pos 0)) value in
    ap (λ z. gcd z (gcd_of old)) (f ∙ ap (gcd d) here) ∙ gcd_assoc d (get_or old i (pos 0)) (gcd_of old) ∙ ap (gcd d) (absorbed old i (omega (arith, size, h))) ∙ common

-- multiples of d
pub common_whole : (d start : ℤ) (old now : List ℤ) → pos 1 ≤ℤ d → scale d now ≡ old → gcd d (gcd_of old) ≡ gcd start (gcd_of old) → d ≡ gcd start (gcd_of old)
common_whole (negsuc n) start old now h e common = absurd (omega (arith, ints))
common_whole (pos n) start old now h e common =
    let all : Multiple (pos n) (gcd_of old) = subst (λ zs. Multiple (pos n) (gcd_of zs)) e (gcd_of-greatest n (scale (pos n) now) (each now)) in
    sym (gcd_comm (pos n) (gcd_of old) ∙ multiple_gcd n (gcd_of old) all) ∙ common
  where
    each : (zs : List ℤ) → AllByRecursion (Multiple (pos n)) (scale (pos n) zs)
    each [] = tt
    each (z ∷ zs) = (record { times = z; is = refl }, each zs)

-- by 1 they stay
pub scaled_one : (zs old : List ℤ) (k : ℕ) → scaled_front (pos 1) zs k ≡ old → scale (pos 1) zs ≡ old
scaled_one zs old k e = scale_one zs ∙ sym (take-append-drop k zs) ∙ ap (λ front. front ++ drop k zs) (sym (scale_one (take k zs))) ∙ e

-- ---- a row

row_scaled : (n : ℕ) (g : ℤ) (zs : List ℤ) → 1 ≤ length zs → row_of_numbers n (scale g zs) ≡ scaled g (row_of_numbers n zs)
row_scaled n g [] h = absurd (omega arith)
row_scaled n g (z ∷ zs) h = rw (take-map (λ x. g *ℤ x) n zs, drop-map (λ x. g *ℤ x) n zs) refl

-- the divisor that is found with the denominator too
with_den : (r : Row) (start rest : ℤ) → content r ≡ gcd start rest → gcd start (gcd r.den rest) ≡ content r
with_den r start rest e =
    sym (gcd_assoc start r.den rest) ∙ ap (λ z. gcd z rest) (gcd_comm start r.den) ∙ gcd_assoc r.den start rest ∙ ap (gcd r.den) (sym e)
    ∙ multiple_gcd _ r.den (content-divides r).0

-- a row whose numbers are divided by their greatest common divisor
pub row_divided : (n : ℕ) (g start : ℤ) (old now : List ℤ) → 1 ≤ length old → pos 1 ≤ℤ g → g ≡ gcd start (gcd_of old) → content (row_of_numbers n old) ≡ gcd start (gcd_of (drop 1 old)) → scale g now ≡ old
    → row_of_numbers n now ≡ divided (row_of_numbers n old)
row_divided n g start [] now size some found alone e = absurd (omega arith)
row_divided n (negsuc m) start (z ∷ zs) now size some found alone e = absurd (omega (arith, ints))
row_divided n (pos m) start (z ∷ zs) now size some found alone e =
    let old = row_of_numbers n (z ∷ zs) in
    let row = row_of_numbers n now in
    let more : 0 < m = omega (arith, ints, some) in
    let filled : 1 ≤ length now = omega (arith, length-map now (λ x. pos m *ℤ x), ap length e) in
    let whole : scaled (pos m) row ≡ old = sym (row_scaled n (pos m) now filled) ∙ ap (row_of_numbers n) e in
    let divisor : content old ≡ pos m = sym (with_den old start (gcd_of zs) alone) ∙ sym found in
    let times : pos m *ℤ content row ≡ pos m = sym (content-scaled m row more) ∙ ap content whole ∙ divisor in
    sym (divided-scaled m row more (ap pos (times-one m _ more (ap unsigned_abs times)))) ∙ ap divided whole

-- The greatest common divisors of the definitions.
use Rattle.affine_forms.proofs.Words.{◌≡◌, ℕ, zero, ◌+◌, ◌<◌, ℤ, pos, negsuc, ◌≤ℤ◌, ◌+ℤ◌, ◌*ℤ◌, true, refl, ◌∙◌, arith, List, [], ◌∷◌, length, drop, get_or, ints, drop_more, All, IsTrue, Fits, fits-floor, All-from_recursion, recursion_from_All, gcd, gcd_of, floor_div, floor_mod, divides, is_zero, floor_divided, scale, Multiple, gcd-divides, gcd_of-divides, all_through, floor-exact}
use Rattle.std.specs.List.{AllByRecursion}
pub use Rattle.pip_model.proofs.Gcd.{gcd_assoc, gcd_one, floor_divided_one}
use Rattle.pip_model.proofs.Laws.{floor_mod-law}

pub gcd_step : (found : ℤ) (entries : List ℤ) (i : ℕ) → i < length entries
    → gcd (gcd found (get_or entries i (pos 0))) (gcd_of (drop (i + 1) entries)) ≡ gcd found (gcd_of (drop i entries))
gcd_step found entries i h = rw (drop_more entries i (pos 0) h) (gcd_assoc found (get_or entries i (pos 0)) (gcd_of (drop (i + 1) entries)))

-- one more entry is taken in
pub gcd_through : (found y start : ℤ) (entries : List ℤ) (i : ℕ) → i < length entries → y ≡ gcd found (get_or entries i (pos 0))
    → gcd found (gcd_of (drop i entries)) ≡ gcd start (gcd_of entries) → gcd y (gcd_of (drop (i + 1) entries)) ≡ gcd start (gcd_of entries)
gcd_through found y start entries i h is e = rw is (gcd_step found entries i h ∙ e)

pub gcd_narrower : (found y start : ℤ) → (pos 1 ≤ℤ found → (pos 1 ≤ℤ y) × (y ≤ℤ found)) → (pos 1 ≤ℤ start → (pos 1 ≤ℤ found) × (found ≤ℤ start)) → pos 1 ≤ℤ start → (pos 1 ≤ℤ y) × (y ≤ℤ start)
gcd_narrower found y start p q h =
    let kept = q h in
    let next = p kept.0 in
    (next.0, omega (arith, ints, next.1, kept.1))

positive_is : (n : ℕ) → pos 1 ≤ℤ pos n → 0 < n
positive_is n h = omega (arith, ints)

-- ---- exact division

none_left : (d q r x : ℤ) → d *ℤ q +ℤ r ≡ x → is_zero r ≡ true → d *ℤ q ≡ x
none_left d q (pos zero) x e h = omega (arith, ints, e)
none_left d q _ x e h = absurd cc

-- a form is d times its quotients where d divides each entry
pub scale_divided : (d : ℤ) (c : List ℤ) → pos 1 ≤ℤ d → All (λ x. IsTrue (divides d x)) c → scale d (floor_divided d c) ≡ c
scale_divided (negsuc n) c h all = absurd (omega (arith, ints))
scale_divided (pos n) c h all = exact c (recursion_from_All (λ x. IsTrue (divides (pos n) x)) c all)
  where
    exact : (c : List ℤ) → AllByRecursion (λ x. IsTrue (divides (pos n) x)) c → scale (pos n) (floor_divided (pos n) c) ≡ c
    exact [] all = refl
    exact (x ∷ xs) all =
        let one : pos n *ℤ floor_div x (pos n) ≡ x = none_left (pos n) (floor_div x (pos n)) (floor_mod x (pos n)) x (floor_mod-law x n (positive_is n h)) all.0 in
        rw (one, exact xs all.1) refl

-- ---- the greatest common divisor divides

zero_left : (d q r x : ℤ) → d *ℤ q +ℤ r ≡ x → x ≡ d *ℤ q → is_zero r ≡ true
zero_left d q r x e f = let none : r ≡ pos 0 = omega (arith, ints, e, f) in rw none refl

divides_multiple : (d x : ℤ) → pos 1 ≤ℤ d → Multiple d x → IsTrue (divides d x)
divides_multiple (negsuc n) x h m = absurd (omega (arith, ints))
divides_multiple (pos n) x h m = zero_left (pos n) (floor_div x (pos n)) (floor_mod x (pos n)) x (floor_mod-law x n (positive_is n h)) (floor-exact x n (positive_is n h) m)

divides_list : (d : ℤ) (c : List ℤ) → pos 1 ≤ℤ d → AllByRecursion (Multiple d) c → All (λ x. IsTrue (divides d x)) c
divides_list d c h all = All-from_recursion (λ x. IsTrue (divides d x)) c (each c all)
  where
    each : (c : List ℤ) → AllByRecursion (Multiple d) c → AllByRecursion (λ x. IsTrue (divides d x)) c
    each [] all = tt
    each (x ∷ xs) all = (divides_multiple d x h all.0, each xs all.1)

pub gcd_divides_start : (g s : ℤ) (c : List ℤ) → g ≡ gcd s (gcd_of c) → pos 1 ≤ℤ g → IsTrue (divides g s)
gcd_divides_start g s c is h = rw is (divides_multiple (gcd s (gcd_of c)) s (rw is at h) (gcd-divides s (gcd_of c)).0)

pub gcd_divides_entries : (g s : ℤ) (c : List ℤ) → g ≡ gcd s (gcd_of c) → pos 1 ≤ℤ g → All (λ x. IsTrue (divides g x)) c
gcd_divides_entries g s c is h =
    rw is (divides_list (gcd s (gcd_of c)) c (rw is at h) (all_through (gcd s (gcd_of c)) (gcd_of c) c (gcd-divides s (gcd_of c)).1 (gcd_of-divides c)))

pub gcd_of_divides : (g : ℤ) (c : List ℤ) → g ≡ gcd_of c → pos 1 ≤ℤ g → All (λ x. IsTrue (divides g x)) c
gcd_of_divides g c is h = rw is (divides_list (gcd_of c) c (rw is at h) (gcd_of-divides c))

-- the quotient rounded down fits
pub quotient_fits : (a d : ℤ) → pos 1 ≤ℤ d → Fits a → Fits (floor_div a d)
quotient_fits a (pos e) h fit = fits-floor a e fit
quotient_fits a (negsuc e) h fit = absurd (omega (arith, ints))

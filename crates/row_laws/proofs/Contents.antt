-- The numbers of each row of a run have no common divisor: a divided row's, a row's of denominator 1, a widened row's.
use Rattle.row_laws.proofs.Words.{◌≡◌, ◌∙◌, refl, ap, sym, ℕ, ◌+◌, ◌*◌, ◌<◌, ℤ, pos, negsuc, ◌≤ℤ◌, unsigned_abs, arith, List, [], ◌∷◌, ◌++◌, ints, floor_div, euclid, gcd, gcd_of, floor_divided, Row, divided, gcd-divides, gcd_of-divides, all_through, through, common-IsGcd, common-scaled, times-one, size-divided, size-gcd_of, gcd_one, gcd_zero, content, Multiple, AllByRecursion, gcd-greatest, gcd_of-greatest, pos_of_dvd_of_pos}

-- a row of denominator 1
pub content-one : (r : Row) → r.den ≡ pos 1 → content r ≡ pos 1
content-one r e = rw e (gcd_one (gcd (gcd_of r.coefs) (gcd_of r.constant)))

-- a divided row

-- the divisor of a row divides each of its numbers
pub content-divides : (r : Row) → Multiple (content r) r.den × AllByRecursion (Multiple (content r)) r.coefs × AllByRecursion (Multiple (content r)) r.constant
content-divides r =
    let parts = gcd-divides r.den _ in
    let lists = gcd-divides (gcd_of r.coefs) (gcd_of r.constant) in (
      parts.0,
      all_through (content r) (gcd_of r.coefs) r.coefs (through (content r) _ (gcd_of r.coefs) parts.1 lists.0) (gcd_of-divides r.coefs),
      all_through (content r) (gcd_of r.constant) r.constant (through (content r) _ (gcd_of r.constant) parts.1 lists.1) (gcd_of-divides r.constant),
    )

-- and is a multiple of what does
pub content-greatest : (d : ℕ) (r : Row) → Multiple (pos d) r.den → AllByRecursion (Multiple (pos d)) r.coefs → AllByRecursion (Multiple (pos d)) r.constant → Multiple (pos d) (content r)
content-greatest d r den coefs constant =
    gcd-greatest d r.den (gcd (gcd_of r.coefs) (gcd_of r.constant)) den
    (gcd-greatest d (gcd_of r.coefs) (gcd_of r.constant) (gcd_of-greatest d r.coefs coefs) (gcd_of-greatest d r.constant constant))

content_by : (r : Row) (g : ℕ) → content r ≡ pos g → 0 < g
    → gcd (floor_div r.den (pos g)) (gcd (gcd_of (floor_divided (pos g) r.coefs)) (gcd_of (floor_divided (pos g) r.constant))) ≡ pos 1
content_by r g is h =
    let parts = rw is at (content-divides r) in
    let a = unsigned_abs (gcd_of (floor_divided (pos g) r.coefs)) in
    let b = unsigned_abs (gcd_of (floor_divided (pos g) r.constant)) in
    let both : unsigned_abs (gcd (gcd_of r.coefs) (gcd_of r.constant)) ≡ g * euclid (b + 1) a b
    = ap_two (λ x y. euclid (y + 1) x y) (size-gcd_of g r.coefs h parts.1) (size-gcd_of g r.constant h parts.2) ∙ common-scaled g a b h in
    let all : g * euclid (euclid (b + 1) a b + 1) _ (euclid (b + 1) a b) ≡ g
    = sym (common-scaled g _ (euclid (b + 1) a b) h)
    ∙ sym (ap_two (λ x y. euclid (y + 1) x y) (size-divided g r.den h parts.0) both) ∙ (ap unsigned_abs is) in
    ap pos (times-one g (euclid (euclid (b + 1) a b + 1) _ (euclid (b + 1) a b)) h all)
  where
    ap_two : (f : ℕ → ℕ → ℕ) {x y u v : ℕ} → x ≡ y → u ≡ v → f x u ≡ f y v
    ap_two f {x} {y} {u} {v} e k = ap (λ t. f t u) e ∙ ap (λ t. f y t) k

positive : (d : ℕ) (z : ℤ) → 0 < d → 0 < unsigned_abs (gcd (pos d) z)
positive d z h = pos_of_dvd_of_pos (common-IsGcd d (unsigned_abs z)).0 h

pub content-divided : (r : Row) → pos 1 ≤ℤ r.den → content (divided r) ≡ pos 1
content-divided r h = by r.den refl h
  where
    by : (d : ℤ) → r.den ≡ d → pos 1 ≤ℤ d → content (divided r) ≡ pos 1
    by (negsuc n) e h = absurd (omega (arith, ints))
    by (pos n) e h =
        content_by r (unsigned_abs (content r)) refl
        (rw e (positive n (gcd (gcd_of r.coefs) (gcd_of r.constant)) (omega (arith, ints, h))))

-- a widened row

gcd_of-append : (xs ys zs : List ℤ) → gcd_of ys ≡ gcd_of zs → gcd_of (xs ++ ys) ≡ gcd_of (xs ++ zs)
gcd_of-append [] ys zs e = e
gcd_of-append (x ∷ xs) ys zs e = ap (λ (t : ℤ). gcd x t) (gcd_of-append xs ys zs e)

pub gcd_of-widened : (xs : List ℤ) (z : ℤ) → gcd_of (xs ++ pos 0 ∷ z ∷ []) ≡ gcd_of (xs ++ z ∷ [])
gcd_of-widened xs z = gcd_of-append xs (pos 0 ∷ z ∷ []) (z ∷ []) (gcd_zero (z ∷ []))

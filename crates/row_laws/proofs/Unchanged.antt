-- A row whose entry in the pivot's column is 0, and whose numbers have no common divisor, stays as it is in a pivot. The pivot's listed
-- numbers of the row are its own numbers times the pivot, and zeros.
use Rattle.row_laws.proofs.Words.{◌≡◌, ◌∙◌, refl, ap, ℕ, zero, suc, ◌<◌, ℤ, pos, ◌-ℤ◌, ◌*ℤ◌, unsigned_abs, arith, List, [], ◌∷◌, ◌++◌, length, Bool, true, false, ◌&&◌, slice_set, IsTrue, All, list_all-append, list_all-from_AllPass, ints, unsigned_abs-mul, fits, floor_div, gcd, gcd_of, entry, combine, floor_divided, remove, scale, all_fit, combine_listed, Row, divided, substituted, eliminated, eliminated_listed, floor-unique, common-scaled, content, set-get_or, entry-scale, scale_one}

-- ---- the divisor of multiples is the multiple of the divisor

gcd-scaled : (x : ℕ) (a b : ℤ) → 0 < x → gcd (pos x *ℤ a) (pos x *ℤ b) ≡ pos x *ℤ gcd a b
gcd-scaled x a b h = rw (unsigned_abs-mul (pos x) a, unsigned_abs-mul (pos x) b) (ap pos (common-scaled x (unsigned_abs a) (unsigned_abs b) h))

none : (x : ℕ) → pos 0 ≡ pos x *ℤ pos 0
none x = omega (arith, ints)

gcd_of-scaled : (x : ℕ) (cs : List ℤ) → 0 < x → gcd_of (scale (pos x) cs) ≡ pos x *ℤ gcd_of cs
gcd_of-scaled x [] h = none x
gcd_of-scaled x (c ∷ cs) h = rw (gcd_of-scaled x cs h) (gcd-scaled x c (gcd_of cs) h)

-- ---- a multiple of a row, divided

abbrev pub scaled : ℤ → Row → Row
scaled z r = record { den = z *ℤ r.den; coefs = scale z r.coefs; constant = scale z r.constant }

pub content-scaled : (x : ℕ) (r : Row) → 0 < x → content (scaled (pos x) r) ≡ pos x *ℤ content r
content-scaled x r h =
    let lists : gcd (gcd_of (scale (pos x) r.coefs)) (gcd_of (scale (pos x) r.constant)) ≡ pos x *ℤ gcd (gcd_of r.coefs) (gcd_of r.constant)
    = rw (gcd_of-scaled x r.coefs h, gcd_of-scaled x r.constant h) (gcd-scaled x (gcd_of r.coefs) (gcd_of r.constant) h) in
    ap (λ z. gcd (pos x *ℤ r.den) z) lists ∙ gcd-scaled x r.den (gcd (gcd_of r.coefs) (gcd_of r.constant)) h

floor-scaled : (x : ℕ) (z : ℤ) → 0 < x → floor_div (pos x *ℤ z) (pos x) ≡ z
floor-scaled x z h = floor-unique (pos x *ℤ z) z x h (omega (arith, ints)) (omega (arith, ints))

floor_divided-scaled : (x : ℕ) (cs : List ℤ) → 0 < x → floor_divided (pos x) (scale (pos x) cs) ≡ cs
floor_divided-scaled x [] h = refl
floor_divided-scaled x (c ∷ cs) h = rw (floor-scaled x c h, floor_divided-scaled x cs h) refl

times_one : (x : ℕ) → pos x *ℤ pos 1 ≡ pos x
times_one x = omega (arith, ints)

pub divided-scaled : (x : ℕ) (r : Row) → 0 < x → content r ≡ pos 1 → divided (scaled (pos x) r) ≡ r
divided-scaled x r h one =
    let all : content (scaled (pos x) r) ≡ pos x = content-scaled x r h ∙ ap (λ z. pos x *ℤ z) one ∙ times_one x in
    rw (all, floor-scaled x r.den h, floor_divided-scaled x r.coefs h, floor_divided-scaled x r.constant h) refl

-- ---- a row without the pivot's column

less_none : (a x y : ℤ) → a *ℤ x -ℤ pos 0 *ℤ y ≡ a *ℤ x
less_none a x y = omega (arith, ints)

combine-none : (a : ℤ) (r s : List ℤ) → length r ≡ length s → combine a r (pos 0) s ≡ scale a r
combine-none a [] s e = refl
combine-none a (x ∷ r) [] e = absurd (omega arith)
combine-none a (x ∷ r) (y ∷ s) e = rw (less_none a x y, combine-none a r s (omega arith)) refl

pub set-same : (xs : List ℤ) (c : ℕ) (z : ℤ) → entry xs c ≡ z → slice_set xs c z ≡ xs
set-same xs c z e = rw (← e) (set-get_or xs c (pos 0))

pub any_zero : (a : ℤ) → a *ℤ pos 0 ≡ pos 0
any_zero a = omega (arith, ints)

swap : (x : ℕ) (d : ℤ) → d *ℤ pos x ≡ pos x *ℤ d
swap x d = omega (arith, ints)

-- the row before its division is the pivot times itself
substituted-none : (p : Row) (c : ℕ) (i : Row) (x : ℕ) → entry p.coefs c ≡ pos x → entry i.coefs c ≡ pos 0
    → length i.coefs ≡ length p.coefs → length i.constant ≡ length p.constant → substituted p c i ≡ scaled (pos x) i
substituted-none p c i x a b e f =
    rw (
      a,
      b,
      combine-none (pos x) i.coefs p.coefs e,
      combine-none (pos x) i.constant p.constant f,
      set-same (scale (pos x) i.coefs) c (pos 0 *ℤ p.den) (entry-scale (pos x) i.coefs c ∙ rw b (omega (arith, ints))),
      swap x i.den,
    ) refl

pub eliminated-none : (p : Row) (c : ℕ) (i : Row) (x : ℕ) → 0 < x → entry p.coefs c ≡ pos x → entry i.coefs c ≡ pos 0
    → length i.coefs ≡ length p.coefs → length i.constant ≡ length p.constant → content i ≡ pos 1 → eliminated p c i ≡ i
eliminated-none p c i x h a b e f one = ap divided (substituted-none p c i x a b e f) ∙ divided-scaled x i h one

-- ---- its listed numbers

zero_times : (y : ℤ) → pos 0 *ℤ y ≡ pos 0
zero_times y = omega (arith, ints)

minus_none : (z : ℤ) → z -ℤ pos 0 ≡ z
minus_none z = omega (arith, ints)

twice : (b r : Bool) → (b && (true && (b && r))) ≡ (b && r)
twice true r = refl
twice false r = refl

-- they fit exactly where the multiples do
pub combine_listed-none : (a : ℤ) (r s : List ℤ) → length r ≡ length s → all_fit (combine_listed a r (pos 0) s) ≡ all_fit (scale a r)
combine_listed-none a [] s e = refl
combine_listed-none a (x ∷ r) [] e = absurd (omega arith)
combine_listed-none a (x ∷ r) (y ∷ s) e =
    rw (zero_times y, minus_none (a *ℤ x), combine_listed-none a r s (omega arith)) (twice (fits (a *ℤ x)) (all_fit (scale a r)))

pub all_fit-append : (xs ys : List ℤ) → all_fit (xs ++ ys) ≡ (all_fit xs && all_fit ys)
all_fit-append xs ys = list_all-append fits xs ys

times_fits : (a : ℤ) (xs : List ℤ) (c : ℕ) → entry xs c ≡ pos 0 → all_fit (scale a (remove c xs)) ≡ all_fit (scale a xs)
times_fits a [] c e = refl
times_fits a (x ∷ xs) zero e = rw (e, any_zero a) refl
times_fits a (x ∷ xs) (suc c) e = ap (λ (b : Bool). fits (a *ℤ x) && b) (times_fits a xs c e)

same_length : (xs ys : List ℤ) (c : ℕ) → length xs ≡ length ys → length (remove c xs) ≡ length (remove c ys)
same_length [] [] c e = refl
same_length (x ∷ xs) (y ∷ ys) zero e = omega arith
same_length (x ∷ xs) (y ∷ ys) (suc c) e = ap suc (same_length xs ys c (omega arith))
same_length _ _ c e = absurd (omega arith)

-- the listed numbers of such a row fit exactly where its numbers times the pivot do
pub eliminated_listed-none : (p : Row) (c : ℕ) (i : Row) → entry i.coefs c ≡ pos 0
    → length i.coefs ≡ length p.coefs → length i.constant ≡ length p.constant
    → all_fit (eliminated_listed p c i)
    ≡ (fits (i.den *ℤ entry p.coefs c) && (all_fit (scale (entry p.coefs c) i.coefs) && all_fit (scale (entry p.coefs c) i.constant)))
eliminated_listed-none p c i b e f =
    let a = entry p.coefs c in
    let first : all_fit (combine_listed a (remove c i.coefs) (pos 0) (remove c p.coefs)) ≡ all_fit (scale a i.coefs)
    = combine_listed-none a (remove c i.coefs) (remove c p.coefs) (same_length i.coefs p.coefs c e) ∙ times_fits a i.coefs c b in
    rw (b, zero_times p.den)
    (ap (λ (t : Bool). fits (i.den *ℤ a) && t)
    (all_fit-append (combine_listed a (remove c i.coefs) (pos 0) (remove c p.coefs)) (combine_listed a i.constant (pos 0) p.constant)
    ∙ ap (λ (t : Bool). t && all_fit (combine_listed a i.constant (pos 0) p.constant)) first
    ∙ ap (λ (t : Bool). all_fit (scale a i.coefs) && t) (combine_listed-none a i.constant p.constant f)))

-- ---- where the pivot is 1 too, they are its own numbers

pub once : (z : ℤ) → pos 1 *ℤ z ≡ z
once z = omega (arith, ints)

pub by_one : (z : ℤ) → z *ℤ pos 1 ≡ z
by_one z = omega (arith, ints)

each_fits : (xs : List ℤ) → All (λ z. IsTrue (fits z)) xs → all_fit xs ≡ true
each_fits xs h = list_all-from_AllPass fits xs h

pub eliminated_listed_one : (p : Row) (c : ℕ) (i : Row) → entry p.coefs c ≡ pos 1 → entry i.coefs c ≡ pos 0
    → length i.coefs ≡ length p.coefs → length i.constant ≡ length p.constant
    → IsTrue (fits i.den) → All (λ z. IsTrue (fits z)) i.coefs → All (λ z. IsTrue (fits z)) i.constant → IsTrue (all_fit (eliminated_listed p c i))
eliminated_listed_one p c i a b e f den coefs constant =
    eliminated_listed-none p c i b e f
    ∙ rw (a, by_one i.den, scale_one i.coefs, scale_one i.constant, den, each_fits i.coefs coefs, each_fits i.constant constant) refl

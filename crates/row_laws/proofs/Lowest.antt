-- A row after a pivot, made by factors in lowest terms: where the numbers of both rows have no common divisor, its
-- divisor divides both denominators.
use Rattle.row_laws.proofs.Words.{◌≡◌, ◌∙◌, refl, ap, sym, subst, ℕ, suc, ◌*◌, ◌<◌, ℤ, pos, negsuc, ◌≤ℤ◌, ◌-ℤ◌, ◌*ℤ◌, unsigned_abs, arith, List, [], ◌∷◌, length, AllByRecursion, ints, floor_div, floor_divided, gcd, gcd_of, entry, combine, scale, Row, divided, eliminated, floor-unique, Multiple, gcd-divides, through, all_through, common, common-IsGcd, common-scaled, times-one, size-divided, floor-exact, content, IsReduced, IsElimination, AreLowest, substituted_by, map-set, dvd_antisymm, eq-one_of_dvd-one, gcd_between, gcd-greatest, gcd_one, multiple-dvd, var, ◌⊖◌, ◌⊗◌, ring}
use Rattle.pip_model.proofs.RingLaws.{*ℤ_assoc, *ℤ_left_comm}
use Rattle.std.proofs.Math.IntN.{*ℤ_comm}
use Rattle.row_laws.proofs.Contents.{content-divides, content-greatest}
use Rattle.row_laws.proofs.Multiples.{cancelled, times-multiple, firsts, seconds, firsts_but, seconds_but, at_place}
use Rattle.row_laws.proofs.Substituting.{some_product}
use Rattle.row_laws.proofs.Unchanged.{scaled, content-scaled}

-- ---- numbers over their greatest common divisor are in lowest terms

lowest_by : (a b : ℤ) (n : ℕ) → gcd a b ≡ pos n → 0 < n → AreLowest a b (floor_div a (pos n)) (floor_div b (pos n))
lowest_by a b n is h =
    let parts = rw is at (gcd-divides a b) in
    let x = unsigned_abs (floor_div a (pos n)) in
    let y = unsigned_abs (floor_div b (pos n)) in
    let scaled : common (n * x) (n * y) ≡ n = rw (size-divided n a h parts.0, size-divided n b h parts.1) at (ap unsigned_abs is) in
    record {
      divisor = n;
      positive = h;
      first = floor-exact a n h parts.0;
      second = floor-exact b n h parts.1;
      alone = ap pos (times-one n (common x y) h (sym (common-scaled n x y h) ∙ scaled));
    }

pub lowest-divided : (a b g : ℤ) → g ≡ gcd a b → pos 1 ≤ℤ g → AreLowest a b (floor_div a g) (floor_div b g)
lowest-divided a b (negsuc n) is h = absurd (omega (arith, ints))
lowest-divided a b (pos n) is h = lowest_by a b n (sym is) (omega (arith, ints, h))

pub lowest-alone : (a b : ℤ) → gcd a b ≡ pos 1 → AreLowest a b a b
lowest-alone a b one = record { divisor = 1; positive = omega arith; first = once a; second = once b; alone = one }
  where
    once : (z : ℤ) → z ≡ pos 1 *ℤ z
    once z = omega (arith, ints)

-- a divisor of 1 and another number
pub gcd_with_one : (a : ℤ) → gcd a (pos 1) ≡ pos 1
gcd_with_one a = ap pos (eq-one_of_dvd-one (common-IsGcd (unsigned_abs a) 1).1)

-- ---- a row and its multiples are the same row once they are divided

floor_cancel : (x k : ℕ) (z : ℤ) → 0 < x → 0 < k → Multiple (pos k) z → floor_div (pos x *ℤ z) (pos x *ℤ pos k) ≡ floor_div z (pos k)
floor_cancel x k z hx hk m =
    let all : pos x *ℤ z ≡ pos (x * k) *ℤ m.times = ap (λ t. pos x *ℤ t) m.is ∙ sym (*ℤ_assoc (pos x) (pos k) m.times) in
    let some : 0 < x * k = times_positive x k hx hk in
    let two : floor_div z (pos k) ≡ m.times = floor-unique z m.times k hk (omega (arith, ints, m.is)) (omega (arith, ints, m.is, hk)) in
    (floor-unique (pos x *ℤ z) m.times (x * k) some (omega (arith, ints, all)) (omega (arith, ints, all, some))) ∙ sym two
  where
    times_positive : (x g : ℕ) → 0 < x → 0 < g → 0 < x * g
    times_positive (suc x) (suc g) h k = omega arith
    times_positive _ _ h k = absurd (omega arith)

floors_cancel : (x k : ℕ) (zs : List ℤ) → 0 < x → 0 < k → AllByRecursion (Multiple (pos k)) zs → floor_divided (pos x *ℤ pos k) (scale (pos x) zs) ≡ floor_divided (pos k) zs
floors_cancel x k [] hx hk all = refl
floors_cancel x k (z ∷ zs) hx hk all = rw (floor_cancel x k z hx hk all.0, floors_cancel x k zs hx hk all.1) refl

pub divided-multiple : (x : ℕ) (r : Row) → 0 < x → pos 1 ≤ℤ r.den → divided (scaled (pos x) r) ≡ divided r
divided-multiple x r hx h =
    let k = unsigned_abs (content r) in
    let some : 0 < k = omega (arith, ints, (gcd_between r.den (gcd (gcd_of r.coefs) (gcd_of r.constant)) h).0) in
    let parts = content-divides r in
    rw (
      content-scaled x r hx,
      floor_cancel x k r.den hx some parts.0,
      floors_cancel x k r.coefs hx some parts.1,
      floors_cancel x k r.constant hx some parts.2,
    ) refl

-- ---- by factors in lowest terms the row is the same once it is divided

scale_combine : (h x y : ℤ) (r s : List ℤ) → combine (h *ℤ x) r (h *ℤ y) s ≡ scale h (combine x r y s)
scale_combine h x y (u ∷ r) (v ∷ s) = rw (apart h x y u v, scale_combine h x y r s) refl
  where
    apart : (h x y u v : ℤ) → (h *ℤ x) *ℤ u -ℤ (h *ℤ y) *ℤ v ≡ h *ℤ (x *ℤ u -ℤ y *ℤ v)
    apart h x y u v = ring (h ∷ x ∷ y ∷ u ∷ v ∷ []) ((var 0 ⊗ var 1) ⊗ var 3 ⊖ (var 0 ⊗ var 2) ⊗ var 4) (var 0 ⊗ (var 1 ⊗ var 3 ⊖ var 2 ⊗ var 4)) refl
scale_combine h x y _ _ = refl

substituted-scaled : (h x y : ℤ) (p : Row) (c : ℕ) (i : Row) → substituted_by (h *ℤ x) (h *ℤ y) p c i ≡ scaled h (substituted_by x y p c i)
substituted-scaled h x y p c i =
    rw (
      *ℤ_left_comm i.den h x,
      scale_combine h x y i.coefs p.coefs,
      scale_combine h x y i.constant p.constant,
      *ℤ_assoc h y p.den,
      map-set (λ z. h *ℤ z) (combine x i.coefs y p.coefs) c (y *ℤ p.den),
    ) refl

positive_part : (h : ℕ) (a x : ℤ) → pos 1 ≤ℤ a → a ≡ pos h *ℤ x → pos 1 ≤ℤ x
positive_part h a (pos (suc n)) k e = omega (arith, ints)
positive_part _ a _ k e = absurd (omega (arith, ints, k, e))

pub eliminated-lowest : (p : Row) (c : ℕ) (i : Row) (x y : ℤ) → pos 1 ≤ℤ entry p.coefs c → pos 1 ≤ℤ i.den → AreLowest (entry p.coefs c) (entry i.coefs c) x y
    → eliminated p c i ≡ divided (substituted_by x y p c i)
eliminated-lowest p c i x y h k low =
    let some : pos 1 ≤ℤ x = positive_part low.divisor (entry p.coefs c) x h low.first in
    rw (low.first, low.second)
    (ap divided (substituted-scaled (pos low.divisor) x y p c i) ∙ divided-multiple low.divisor (substituted_by x y p c i) low.positive (some_product i.den x k some))

-- ---- its divisor divides both denominators

divides_one : (m : ℕ) → Multiple (pos m) (pos 1) → m ≡ 1
divides_one m h = eq-one_of_dvd-one (multiple-dvd m (pos 1) h)

module _ (p : Row) (c : ℕ) (i : Row) (x y h : ℤ) (column : c < length p.coefs) (coefs : length i.coefs ≡ length p.coefs) (constant : length i.constant ≡ length p.constant) (at_p : entry p.coefs c ≡ h *ℤ x) (at_i : entry i.coefs c ≡ h *ℤ y) (alone : gcd x y ≡ pos 1) (p_reduced : IsReduced p) (i_reduced : IsReduced i) where
  abbrev made : Row
  made = substituted_by x y p c i

  -- what divides all its numbers and y divides those of row i
  i_alone : (m : ℕ) → Multiple (pos m) (content made) → Multiple (pos m) y → m ≡ 1
  i_alone m g k =
      let parts = content-divides made in
      let den = cancelled m x y i.den alone (through (pos m) (content made) made.den g parts.0) (times-multiple (pos m) y i.den k) in
      let at = subst (Multiple (pos m)) (sym at_i) (times-multiple (pos m) y h k) in
      let cs = firsts_but m x y alone i.coefs p.coefs c (y *ℤ p.den) coefs k at (all_through (pos m) (content made) made.coefs g parts.1) in
      let ts = firsts m x y alone i.constant p.constant constant k (all_through (pos m) (content made) made.constant g parts.2) in
      divides_one m (subst (Multiple (pos m)) i_reduced (content-greatest m i den cs ts))

  -- and what divides them and x those of row p
  p_alone : (m : ℕ) → Multiple (pos m) (content made) → Multiple (pos m) x → m ≡ 1
  p_alone m g k =
      let parts = content-divides made in
      let all = all_through (pos m) (content made) made.coefs g parts.1 in
      let there = at_place m x y alone i.coefs p.coefs c (y *ℤ p.den) coefs column all in
      let den = cancelled m x y p.den alone (times-multiple (pos m) x p.den k) (subst (Multiple (pos m)) (*ℤ_comm y p.den) there) in
      let at = subst (Multiple (pos m)) (sym at_p) (times-multiple (pos m) x h k) in
      let cs = seconds_but m x y alone i.coefs p.coefs c (y *ℤ p.den) coefs k at all in
      let ts = seconds m x y alone i.constant p.constant constant k (all_through (pos m) (content made) made.constant g parts.2) in
      divides_one m (subst (Multiple (pos m)) p_reduced (content-greatest m p den cs ts))

  -- so its divisor has no divisor in common with either
  alone_with : (z : ℤ) → ((m : ℕ) → Multiple (pos m) (content made) → Multiple (pos m) z → m ≡ 1) → gcd (content made) z ≡ pos 1
  alone_with z f =
      let both = gcd-divides (content made) z in
      ap pos (f (unsigned_abs (gcd (content made) z)) both.0 both.1)

  self : Multiple (content made) (content made)
  self = record { times = pos 1; is = omega (arith, ints) }

  -- its divisor divides both denominators
  content-den : Multiple (content made) i.den × Multiple (content made) p.den
  content-den =
      let parts = content-divides made in
      let there = at_place _ x y alone i.coefs p.coefs c (y *ℤ p.den) coefs column parts.1 in (
        cancelled _ (content made) x i.den (alone_with x p_alone) (times-multiple (pos _) (content made) i.den self) parts.0,
        cancelled _ (content made) y p.den (alone_with y i_alone) (times-multiple (pos _) (content made) p.den self) (subst (Multiple (pos _)) (*ℤ_comm y p.den) there),
      )

  -- so it is found from theirs
  content-started : content made ≡ gcd (gcd i.den p.den) (gcd (gcd_of made.coefs) (gcd_of made.constant))
  content-started =
      let e = gcd i.den p.den in
      let lists = gcd (gcd_of made.coefs) (gcd_of made.constant) in
      let dens = content-den in
      let below = gcd-greatest _ e lists (gcd-greatest _ i.den p.den dens.0 dens.1) (gcd-divides made.den lists).1 in
      let parts = gcd-divides e lists in
      let den = through (pos _) i.den made.den (through (pos _) e i.den parts.0 (gcd-divides i.den p.den).0) (record { times = x; is = refl }) in
      ap pos (dvd_antisymm (multiple-dvd _ (gcd e lists) below) (multiple-dvd _ (content made) (gcd-greatest _ made.den lists den parts.1)))

pub divisor-lowest : (p : Row) (c : ℕ) (i : Row) (x y : ℤ) → IsElimination p c i → IsReduced p → IsReduced i → AreLowest (entry p.coefs c) (entry i.coefs c) x y
    → content (substituted_by x y p c i) ≡ gcd (gcd i.den p.den) (gcd (gcd_of (substituted_by x y p c i).coefs) (gcd_of (substituted_by x y p c i).constant))
divisor-lowest p c i x y step hp hi low =
    content-started p c i x y (pos low.divisor) step.pivot.column step.coefs step.constant low.first low.second low.alone hp hi

-- where the denominators have no common divisor, it has none
pub reduced-lowest : (p : Row) (c : ℕ) (i : Row) (x y : ℤ) → IsElimination p c i → IsReduced p → IsReduced i → AreLowest (entry p.coefs c) (entry i.coefs c) x y
    → gcd i.den p.den ≡ pos 1 → IsReduced (substituted_by x y p c i)
reduced-lowest p c i x y step hp hi low one =
    let made = substituted_by x y p c i in
    divisor-lowest p c i x y step hp hi low ∙ ap (λ e. gcd e (gcd (gcd_of made.coefs) (gcd_of made.constant))) one ∙ gcd_one (gcd (gcd_of made.coefs) (gcd_of made.constant))

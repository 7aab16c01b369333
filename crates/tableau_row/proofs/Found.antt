-- A row after a pivot, by the step's factors and from the step's divisor.
use Rattle.tableau_row.proofs.Words.{fits, Fits, length-combine, ◌≡◌, ◌∙◌, refl, ap, sym, subst, ℕ, suc, ◌+◌, ◌<◌, ℤ, pos, ◌≤ℤ◌, ◌*ℤ◌, arith, List, [], ◌∷◌, ◌++◌, length, length-map, length-set, map-append, take, drop, take_at, drop_at, take-append-drop, slice_set, All, All-cons, All-append, All-take, All-drop, All-set, IsTrue, floor_div, floor_divided, gcd, gcd_of, gcd_assoc, gcd_zero, entry, combine, Row, divided, eliminated, content, IsRow, IsOwnRow, IsReduced, IsShort, IsShortRow, IsElimination, IsMadeReduced, MakesRow, true, AreLowest, substituted_by, numbers_of, row_of_numbers, row_from, get_or-take, content-divided, divided_one, short_fit, fits_short, AreReduced, gcd_between, quotient_positive, eliminated-lowest, divisor-lowest, reduced-lowest, row_again, made_further, some_product}
use Rattle.std.specs.Int.{w64, w128}
use Rattle.std.proofs.Common.{to_z, of_z}
use Rattle.std.proofs.lemmas.Int.{fits_signed_from_abs, to_z-of_z}
use Rattle.row_laws.specs.Short.{AreShort}
use Rattle.tableau_row.specs.Stepped.{IsStep}
use Rattle.tableau_row.specs.declared.step.Step.{Step}

-- ---- the numbers of a row

gcd_of-joined : (xs ys : List ℤ) → gcd_of (xs ++ ys) ≡ gcd (gcd_of xs) (gcd_of ys)
gcd_of-joined [] ys = sym (gcd_zero ys)
gcd_of-joined (x ∷ xs) ys = ap (gcd x) (gcd_of-joined xs ys) ∙ sym (gcd_assoc x (gcd_of xs) (gcd_of ys))

pub divided_numbers : (n : ℕ) (zs : List ℤ) (g : ℤ) → n < length zs → g ≡ content (row_of_numbers n zs) → floor_divided g zs ≡ numbers_of (divided (row_of_numbers n zs))
divided_numbers n [] g h e = absurd (omega arith)
divided_numbers n (z ∷ zs) g h e =
    rw (sym e) (ap (λ (xs : List ℤ). floor_div z g ∷ xs) (ap (floor_divided g) (sym (take-append-drop n zs)) ∙ map-append (λ x. floor_div x g) (take n zs) (drop n zs)))

pub short_of_numbers : (n : ℕ) (zs : List ℤ) → n < length zs → IsShortRow (row_of_numbers n zs) → All IsShort zs
short_of_numbers n [] h short = absurd (omega arith)
short_of_numbers n (z ∷ zs) h short =
    All-cons IsShort z zs short.den (subst (All IsShort) (take-append-drop n zs) (All-append IsShort (take n zs) (drop n zs) short.coefs short.constant))

pub row_of_short : (r : Row) → All IsShort (numbers_of r) → IsShortRow r
row_of_short r h =
    let rest : All IsShort (r.coefs ++ r.constant) = All-drop IsShort 1 (numbers_of r) h in
    record {
      den = h 0 (pos 0) (omega arith);
      coefs = subst (All IsShort) (take_at r.coefs r.constant (length r.coefs) refl) (All-take IsShort (length r.coefs) (r.coefs ++ r.constant) rest);
      constant = subst (All IsShort) (drop_at r.coefs r.constant (length r.coefs) refl) (All-drop IsShort (length r.coefs) (r.coefs ++ r.constant) rest);
    }

pub divided_short : (r : Row) → IsOwnRow r → IsShortRow (divided r) → IsMadeReduced r true (divided r)
divided_short r h short = record {
  row = λ n w given.
      let bounds = gcd_between r.den (gcd (gcd_of r.coefs) (gcd_of r.constant)) given.positive in
      record {
        positive = quotient_positive r.den (content r) bounds.0 bounds.1;
        den_fits = short_fit (divided r).den short.den;
        coefs = simp length-map given.coefs;
        constant = simp length-map given.constant;
        coefs_fit = fits_short (divided r).coefs short.coefs;
        constant_fit = fits_short (divided r).constant short.constant;
      };
  reduced = content-divided r h.positive;
  short = λ _. short;
}

-- ---- the row of the step

module _ (p : Row) (c : ℕ) (i : Row) (x y d : ℤ) (step : IsElimination p c i) (reduced : AreReduced p i) (low : AreLowest (entry p.coefs c) (entry i.coefs c) x y) (is : d ≡ gcd i.den p.den) where
  pub eliminated_by : eliminated p c i ≡ divided (substituted_by x y p c i)
  eliminated_by = eliminated-lowest p c i x y step.pivot.positive step.row.positive low

  -- its divisor is found from the step's
  pub found_from : content (substituted_by x y p c i) ≡ gcd d (gcd_of (drop 1 (numbers_of (substituted_by x y p c i))))
  found_from =
      let made = substituted_by x y p c i in
      divisor-lowest p c i x y step reduced.first reduced.second low
      ∙ ap (λ e. gcd e (gcd (gcd_of made.coefs) (gcd_of made.constant))) (sym is)
      ∙ ap (gcd d) (sym (gcd_of-joined made.coefs made.constant))

  -- where the step's is 1, nothing is divided
  pub eliminated_whole : d ≡ pos 1 → eliminated p c i ≡ substituted_by x y p c i
  eliminated_whole one =
      let made = substituted_by x y p c i in
      let alone : IsReduced made = reduced-lowest p c i x y step reduced.first reduced.second low (sym is ∙ one) in
      eliminated_by ∙ sym (divided_one made.den made.coefs made.constant (sym (gcd_assoc made.den (gcd_of made.coefs) (gcd_of made.constant) ∙ alone)))

  pub whole_made : (known : _) → d ≡ pos 1 → MakesRow i (substituted_by x y p c i) known (substituted_by x y p c i) → IsMadeReduced i known (eliminated p c i)
  whole_made known one h =
      subst (IsMadeReduced i known) (sym (eliminated_whole one)) (record {
        row = λ n w given. over n w given;
        reduced = reduced-lowest p c i x y step reduced.first reduced.second low (sym is ∙ one);
        short = h.short;
      })
    where
      over : (n w : ℕ) → IsRow n w i → IsRow n w (substituted_by x y p c i)
      over n w given = record {
        positive = h.row.positive;
        den_fits = h.row.den_fits;
        coefs = h.row.coefs ∙ given.coefs;
        constant = h.row.constant ∙ omega (arith, given.constant);
        coefs_fit = h.row.coefs_fit;
        constant_fit = h.row.constant_fit;
      }

-- ---- the step's factors as code holds them

pub held : (z : ℤ) → IsShort z → to_z w128 (of_z w128 (to_z w64 (of_z w64 z))) ≡ z
held z h =
    ap (λ (k : ℤ). to_z w128 (of_z w128 k)) (to_z-of_z w64 z (fits_signed_from_abs w64 z h))
    ∙ to_z-of_z w128 z (fits_signed_from_abs w128 z (omega (arith, h)))

pub factors_held : (s : Step) → AreShort s.row s.pivot → AreShort (to_z w128 (of_z w128 (to_z w64 (of_z w64 s.row)))) (to_z w128 (of_z w128 (to_z w64 (of_z w64 s.pivot))))
factors_held s h = record { first = subst IsShort (sym (held s.row h.first)) h.first; second = subst IsShort (sym (held s.pivot h.second)) h.second }

pub combine_held : (s : Step) (now rs rs2 us : List ℤ) → AreShort s.row s.pivot → now ≡ combine (to_z w128 (of_z w128 (to_z w64 (of_z w64 s.row)))) rs (to_z w128 (of_z w128 (to_z w64 (of_z w64 s.pivot)))) us → rs ≡ rs2
    → now ≡ combine s.row rs2 s.pivot us
combine_held s now rs rs2 us h e f = e ∙ rw (held s.row h.first, held s.pivot h.second, f) refl

-- its numbers, part by part
pub parts_are : (n c : ℕ) (p : Row) (x y den e : ℤ) (zs front coefs constant : List ℤ) → 0 < length zs → front ≡ take 1 zs → den ≡ entry zs 0 *ℤ x → e ≡ y *ℤ p.den
    → coefs ≡ combine x (take n (drop 1 zs)) y p.coefs → constant ≡ combine x (drop n (drop 1 zs)) y p.constant
    → slice_set front 0 den ++ (slice_set coefs c e ++ constant) ≡ numbers_of (substituted_by x y p c (row_of_numbers n zs))
parts_are n c p x y den e [] front coefs constant h a b d f g = absurd (omega arith)
parts_are n c p x y den e (z ∷ zs) front coefs constant h a b d f g = rw (a, b, d, f, g) refl

-- the row of numbers in their parts
pub row_parts : (n : ℕ) (zs rest coefs constant : List ℤ) (z : ℤ) → z ≡ entry zs 0 → rest ≡ drop 1 zs → coefs ≡ take n rest → constant ≡ drop n rest → row_from z coefs constant ≡ row_of_numbers n zs
row_parts n zs rest coefs constant z d e f g = rw (d, f, g, e) refl

-- the numbers of a row that is made part by part
pub parts_made : (zs front coefs constant : List ℤ) (den made : ℤ) (r : Row) → 0 < length zs → front ≡ take 1 zs → den ≡ made → row_from made coefs constant ≡ r → slice_set front 0 den ++ (coefs ++ constant) ≡ numbers_of r
parts_made [] front coefs constant den made r h a b e = absurd (omega arith)
parts_made (z ∷ zs) front coefs constant den made r h a b e = rw (a, b) (ap numbers_of e)

-- what is known of it
pub made_by : (p : Row) (c : ℕ) (i : Row) (x y : ℤ) (known : _) → IsElimination p c i → pos 1 ≤ℤ x → IsTrue (fits (i.den *ℤ x)) → IsTrue (fits (y *ℤ p.den))
    → All Fits (combine x i.coefs y p.coefs) → All Fits (combine x i.constant y p.constant)
    → (IsTrue known → IsShort (i.den *ℤ x)) → (IsTrue known → IsShort (y *ℤ p.den)) → (IsTrue known → All IsShort (combine x i.coefs y p.coefs)) → (IsTrue known → All IsShort (combine x i.constant y p.constant))
    → MakesRow i (substituted_by x y p c i) known (substituted_by x y p c i)
made_by p c i x y known step some den_fits e_fits coefs_fit constant_fit den_short e_short coefs_short constant_short = record {
  value = refl;
  row = record {
    positive = some_product i.den x step.row.positive some;
    den_fits = den_fits;
    coefs = length-set _ c _ ∙ length-combine x i.coefs y p.coefs step.coefs;
    constant = length-combine x i.constant y p.constant step.constant ∙ step.row.constant;
    coefs_fit = All-set Fits _ c _ e_fits coefs_fit;
    constant_fit = constant_fit;
  };
  short = λ all. record {
    den = den_short all;
    coefs = All-set IsShort _ c _ (e_short all) (coefs_short all);
    constant = constant_short all;
  };
}

-- ---- the numbers of a row that stand in one run

pub entry_again : (n c : ℕ) (zs : List ℤ) → c < n → entry (take n (drop 1 zs)) c ≡ entry zs (1 + c)
entry_again n c [] h = get_or-take n [] c (pos 0) h
entry_again n c (z ∷ zs) h = let next : 1 + c ≡ suc c = omega arith in rw next (get_or-take n zs c (pos 0) h)

pub stepped : (n c : ℕ) (zs : List ℤ) (p : Row) (s : Step) (b d : ℤ) → c < n → b ≡ entry zs (1 + c) → AreLowest (entry p.coefs c) b s.row s.pivot → d ≡ entry zs 0 → s.divisor ≡ gcd d p.den
    → IsStep p c (row_of_numbers n zs) s
stepped n c zs p s b d h e low f is = record {
  lowest = subst (λ z. AreLowest (entry p.coefs c) z s.row s.pivot) (e ∙ sym (entry_again n c zs h)) low;
  divisor = is ∙ ap (λ z. gcd z p.den) f;
}

module _ (p : Row) (c n : ℕ) (i : Row) (x y d : ℤ) (long : length i.coefs ≡ n) (step : IsElimination p c i) (reduced : AreReduced p i) (low : AreLowest (entry p.coefs c) (entry i.coefs c) x y) (is : d ≡ gcd i.den p.den)
    (zs : List ℤ) (made : zs ≡ numbers_of (substituted_by x y p c i)) where
  pub again : row_of_numbers n zs ≡ substituted_by x y p c i
  again = ap (row_of_numbers n) made ∙ row_again n (substituted_by x y p c i) (length-set _ c _ ∙ length-combine x i.coefs y p.coefs step.coefs ∙ long)

  pub found_again : content (row_of_numbers n zs) ≡ gcd d (gcd_of (drop 1 zs))
  found_again = ap content again ∙ found_from p c i x y d step reduced low is ∙ ap (λ (xs : List ℤ). gcd d (gcd_of (drop 1 xs))) (sym made)

  pub divided_again : numbers_of (divided (row_of_numbers n zs)) ≡ numbers_of (eliminated p c i)
  divided_again = ap (λ r. numbers_of (divided r)) again ∙ ap numbers_of (sym (eliminated_by p c i x y d step reduced low is))

  pub reduced_again : (one two : _) → MakesRow i (substituted_by x y p c i) one (substituted_by x y p c i) → IsMadeReduced (row_of_numbers n zs) two (divided (row_of_numbers n zs))
      → IsMadeReduced i two (eliminated p c i)
  reduced_again one two h k =
      subst (IsMadeReduced i two) (sym (eliminated_by p c i x y d step reduced low is))
      (made_further i (substituted_by x y p c i) (divided (substituted_by x y p c i)) one two h (subst (λ r. IsMadeReduced r two (divided r)) again k))

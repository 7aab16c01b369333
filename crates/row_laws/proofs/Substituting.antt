-- A row with another put in: its listed numbers and its parts.
use Rattle.row_laws.proofs.Words.{◌+◌, ◌≡◌, flat_map, take, drop, refl, ap, sym, ◌∙◌, ℕ, suc, ℤ, pos, negsuc, ◌*ℤ◌, ◌≤ℤ◌, Bool, true, ◌&&◌, List, length-set, arith, subst, IsTrue, All, flat_map-append, ints, list_all-append, length-combine, fits, entry, remove, all_fit, combine_listed, Row, substituted, eliminated, eliminated_listed, pivot_listed, row_at, Fits, IsRow, IsReduced, row_from}
use Rattle.row_laws.proofs.Contents.{content-divided}
use Rattle.row_laws.proofs.Unchanged.{eliminated-none, all_fit-append}

-- the listed numbers of a row, part by part
pub record ListedParts (p : Row) (c : ℕ) (r : Row) : Type 0 where
  pub den_fits : Fits (r.den *ℤ entry p.coefs c)
  pub entry_fits : Fits (entry r.coefs c *ℤ p.den)
  pub coefs : IsTrue (all_fit (combine_listed (entry p.coefs c) (remove c r.coefs) (entry r.coefs c) (remove c p.coefs)))
  pub constant : IsTrue (all_fit (combine_listed (entry p.coefs c) r.constant (entry r.coefs c) p.constant))

pub listed_parts : (p : Row) (c : ℕ) (r : Row) → IsTrue (all_fit (eliminated_listed p c r)) → ListedParts p c r
listed_parts p c r e =
    let a = entry p.coefs c in
    let b = entry r.coefs c in
    let one = combine_listed a (remove c r.coefs) b (remove c p.coefs) in
    let two = combine_listed a r.constant b p.constant in
    let parts = split (fits (r.den *ℤ a)) (fits (b *ℤ p.den)) (all_fit one) (all_fit two) (rw (list_all-append fits one two) at e) in
    record { den_fits = parts.0; entry_fits = parts.1; coefs = parts.2; constant = parts.3 }
  where
    split : (p q d t : Bool) → IsTrue (p && (q && (d && t))) → IsTrue p × IsTrue q × IsTrue d × IsTrue t
    split true true true t e = (refl, refl, refl, e)
    split _ _ _ t e = absurd cc

pub some_product : (a b : ℤ) → pos 1 ≤ℤ a → pos 1 ≤ℤ b → pos 1 ≤ℤ (a *ℤ b)
some_product (pos (suc n)) (pos (suc m)) h k = omega (arith, ints)
some_product _ _ h k = absurd (omega (arith, ints))

substituted_is_row : (n w c : ℕ) (p r : Row) → IsRow n w p → IsRow n w r → pos 1 ≤ℤ entry p.coefs c
    → Fits (substituted p c r).den → All Fits (substituted p c r).coefs → All Fits (substituted p c r).constant → IsRow n w (substituted p c r)
substituted_is_row n w c p r hp hr h den_fits coefs_fit constant_fit = record {
  positive = some_product r.den (entry p.coefs c) hr.positive h;
  den_fits = den_fits;
  coefs = length-set _ c _ ∙ length-combine _ r.coefs _ p.coefs (hr.coefs ∙ sym hp.coefs) ∙ hr.coefs;
  constant = length-combine _ r.constant _ p.constant (hr.constant ∙ sym hp.constant) ∙ hr.constant;
  coefs_fit = coefs_fit;
  constant_fit = constant_fit;
}

pub substituted_row : (n w c : ℕ) (p r made : Row) → made ≡ substituted p c r → IsRow n w p → IsRow n w r → pos 1 ≤ℤ entry p.coefs c
    → Fits made.den → All Fits made.coefs → All Fits made.constant → IsRow n w made
substituted_row n w c p r made e hp hr h den_fits coefs_fit constant_fit =
    subst (IsRow n w) (sym e) (substituted_is_row n w c p r hp hr h (subst (λ (x : Row). Fits x.den) e den_fits) (subst (λ (x : Row). All Fits x.coefs) e coefs_fit) (subst (λ (x : Row). All Fits x.constant) e constant_fit))

-- a row that is 0 in the column stays
pub eliminated_none : (n w : ℕ) (p : Row) (c : ℕ) (i : Row) → IsRow n w p → IsRow n w i → pos 1 ≤ℤ entry p.coefs c → entry i.coefs c ≡ pos 0 → IsReduced i → i ≡ eliminated p c i
eliminated_none n w p c i hp hi h zero_at one = by (entry p.coefs c) refl h
  where
    by : (z : ℤ) → entry p.coefs c ≡ z → pos 1 ≤ℤ z → i ≡ eliminated p c i
    by (negsuc k) e h = absurd (omega (arith, ints))
    by (pos k) e h = sym (eliminated-none p c i k (omega (arith, ints, h)) e zero_at (hi.coefs ∙ sym hp.coefs) (hi.constant ∙ sym hp.constant) one)

pub eliminated_reduced : (n w c : ℕ) (p r : Row) → IsRow n w r → pos 1 ≤ℤ entry p.coefs c → IsReduced (eliminated p c r)
eliminated_reduced n w c p r hr h = content-divided (substituted p c r) (some_product r.den (entry p.coefs c) hr.positive h)

-- ---- rows

-- the numbers of the rows in front and behind
pivot_listed_sides : (rows : List Row) (r c : ℕ) → all_fit (pivot_listed rows r c)
    ≡ (all_fit (flat_map (eliminated_listed (row_at rows r) c) (take r rows)) && all_fit (flat_map (eliminated_listed (row_at rows r) c) (drop (r + 1) rows)))
pivot_listed_sides rows r c =
    let g = eliminated_listed (row_at rows r) c in
    ap all_fit (flat_map-append g (take r rows) (drop (r + 1) rows)) ∙ all_fit-append (flat_map g (take r rows)) (flat_map g (drop (r + 1) rows))

pub checked_sides : (rows front back : List Row) (p : Row) (r c : ℕ) → front ≡ take r rows → back ≡ drop (r + 1) rows → p ≡ row_at rows r
    → all_fit (pivot_listed rows r c) ≡ (all_fit (flat_map (eliminated_listed p c) front) && all_fit (flat_map (eliminated_listed p c) back))
checked_sides rows front back p r c f g same =
    pivot_listed_sides rows r c
    ∙ subst (λ (q : Row). all_fit (flat_map (eliminated_listed (row_at rows r) c) (take r rows)) && all_fit (flat_map (eliminated_listed (row_at rows r) c) (drop (r + 1) rows)) ≡ (all_fit (flat_map (eliminated_listed q c) front) && all_fit (flat_map (eliminated_listed q c) back))) (sym same)
    (rw (f, g) refl)

-- a fact of a row whose parts are known
pub row_parts : (P : Row → Type 0) (den d : ℤ) (coefs cs constant ts : List ℤ) → den ≡ d → coefs ≡ cs → constant ≡ ts → P (row_from d cs ts) → P (row_from den coefs constant)
row_parts P den d coefs cs constant ts e f g h = rw (e, f, g) h

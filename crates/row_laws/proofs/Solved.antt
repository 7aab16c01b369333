-- The row of a column after the pivot on a row and that column: the row solved for the column.
use Rattle.row_laws.proofs.Words.{◌≡◌, ◌∙◌, refl, ap, sym, ℕ, zero, suc, ◌+◌, ◌<◌, ℤ, pos, neg_ℤ, ◌≤ℤ◌, ◌*ℤ◌, ◌-ℤ◌, arith, List, [], ◌∷◌, ◌++◌, length, take, drop, replicate, get_or, append_assoc, length-set, slice_set, IsTrue, All, ints, length-map, map-append, length-replicate, take_more, take-map, drop-map, All-map, All-replicate, All-set, gcd, gcd_of, entry, combine, negate, all_fit, Row, substituted, divided, eliminated, eliminated_listed, unit_row, size_opposite, gcd_opposite, gcd_of_negate, gcd_exchanged, entry-negate, numbers_of, IsRow, IsReduced, content, IsShort, IsShortRow}
use Rattle.pip_model.proofs.Gcd.{gcd_assoc}
use Rattle.row_laws.proofs.Places.{set_parts}
use Rattle.row_laws.proofs.RowLaws.{divided_one}
use Rattle.row_laws.proofs.ShortRows.{short_fit, fits_short, short_eliminated}
use Rattle.row_laws.proofs.Unchanged.{once}

-- row p solved for column c
abbrev pub solved : Row → ℕ → Row
solved p c = record { den = entry p.coefs c; coefs = slice_set (negate p.coefs) c p.den; constant = negate p.constant }

-- ---- the row of the column with the row put in

opposite_of : (a y : ℤ) → a *ℤ pos 0 -ℤ pos 1 *ℤ y ≡ neg_ℤ y
opposite_of a y = omega (arith, ints)

combine_zeros : (a : ℤ) (s : List ℤ) (n : ℕ) → length s ≡ n → combine a (replicate n (pos 0)) (pos 1) s ≡ negate s
combine_zeros a [] n e = let z : n ≡ 0 = omega arith in rw z refl
combine_zeros a (y ∷ s) zero e = absurd (omega arith)
combine_zeros a (y ∷ s) (suc n) e = rw (opposite_of a y, combine_zeros a s n (omega arith)) refl

combine_unit : (a z : ℤ) (s : List ℤ) (n c : ℕ) → length s ≡ n
    → slice_set (combine a (slice_set (replicate n (pos 0)) c (pos 1)) (pos 1) s) c z ≡ slice_set (negate s) c z
combine_unit a z [] n c e = let k : n ≡ 0 = omega arith in rw k refl
combine_unit a z (y ∷ s) zero c e = absurd (omega arith)
combine_unit a z (y ∷ s) (suc n) zero e = rw (combine_zeros a s n (omega arith)) refl
combine_unit a z (y ∷ s) (suc n) (suc c) e = rw (opposite_of a y, combine_unit a z s n c (omega arith)) refl

unit_entry : (n c : ℕ) → c < n → entry (slice_set (replicate n (pos 0)) c (pos 1)) c ≡ pos 1
unit_entry zero c h = absurd (omega arith)
unit_entry (suc n) zero h = refl
unit_entry (suc n) (suc c) h = unit_entry n c (omega arith)

substituted_unit : (n w c : ℕ) (p : Row) → length p.coefs ≡ n → length p.constant ≡ w + 1 → c < n → substituted p c (unit_row n w c) ≡ solved p c
substituted_unit n w c p e f h =
    rw (
      unit_entry n c h,
      once (entry p.coefs c),
      once p.den,
      combine_unit (entry p.coefs c) p.den p.coefs n c e,
      combine_zeros (entry p.coefs c) p.constant (w + 1) f,
    ) refl

-- ---- its numbers are those of the row but for their order and signs

length_negate : (xs : List ℤ) → length (negate xs) ≡ length xs
length_negate xs = simp length-map refl

solved_divisor : (c : ℕ) (p : Row) → c < length p.coefs
    → gcd (gcd (entry p.coefs c) (gcd_of (slice_set (negate p.coefs) c p.den))) (gcd_of (negate p.constant)) ≡ content p
solved_divisor c p h =
    let changed = gcd_of (slice_set (negate p.coefs) c p.den) in
    let coefs : gcd (entry p.coefs c) changed ≡ gcd p.den (gcd_of p.coefs)
    = sym (gcd_opposite (entry p.coefs c) changed)
    ∙ ap (λ z. gcd z changed) (sym (entry-negate p.coefs c))
    ∙ gcd_exchanged p.den (negate p.coefs) c (omega (arith, h, length_negate p.coefs))
    ∙ ap (gcd p.den) (gcd_of_negate p.coefs) in
    ap (λ z. gcd z (gcd_of (negate p.constant))) coefs
    ∙ ap (gcd (gcd p.den (gcd_of p.coefs))) (gcd_of_negate p.constant)
    ∙ gcd_assoc p.den (gcd_of p.coefs) (gcd_of p.constant)

pub eliminated_unit : (n w c : ℕ) (p : Row) → length p.coefs ≡ n → length p.constant ≡ w + 1 → c < n → IsReduced p → eliminated p c (unit_row n w c) ≡ solved p c
eliminated_unit n w c p e f h one =
    ap divided (substituted_unit n w c p e f h)
    ∙ sym (divided_one (entry p.coefs c) (slice_set (negate p.coefs) c p.den) (negate p.constant) (sym (solved_divisor c p (omega (arith, e, h)) ∙ one)))

pub solved_reduced : (c : ℕ) (p : Row) → c < length p.coefs → IsReduced p → IsReduced (solved p c)
solved_reduced c p h one =
    sym (gcd_assoc (entry p.coefs c) (gcd_of (slice_set (negate p.coefs) c p.den)) (gcd_of (negate p.constant))) ∙ solved_divisor c p h ∙ one

-- ---- they are short

negate_short : (xs : List ℤ) → All IsShort xs → All IsShort (negate xs)
negate_short xs h = All-map IsShort neg_ℤ xs (λ k d lt. rw (size_opposite (get_or xs k d)) (h k d lt))

pub solved_short : (c : ℕ) (p : Row) → c < length p.coefs → IsShortRow p → IsShortRow (solved p c)
solved_short c p h short = record {
  den = short.coefs c (pos 0) h;
  coefs = All-set IsShort _ _ _ short.den (negate_short p.coefs short.coefs);
  constant = negate_short p.constant short.constant;
}

pub solved_row : (n w c : ℕ) (p : Row) → c < n → IsRow n w p → IsShortRow p → pos 1 ≤ℤ entry p.coefs c → IsRow n w (solved p c)
solved_row n w c p h row short some =
    let made = solved_short c p (omega (arith, h, row.coefs)) short in
    record {
      positive = some;
      den_fits = short_fit (entry p.coefs c) made.den;
      coefs = length-set _ c _ ∙ length_negate p.coefs ∙ row.coefs;
      constant = length_negate p.constant ∙ row.constant;
      coefs_fit = fits_short _ made.coefs;
      constant_fit = fits_short _ made.constant;
    }

-- ---- the numbers that the elimination lists fit

pub unit_short : (n w c : ℕ) → IsShortRow (unit_row n w c)
unit_short n w c = record {
  den = omega arith;
  coefs = All-set IsShort _ _ _ (omega arith) (All-replicate IsShort n (pos 0) (omega arith));
  constant = All-replicate IsShort (w + 1) (pos 0) (omega arith);
}

pub solved_listed : (n w c : ℕ) (p : Row) → IsShortRow p → length p.coefs ≡ n → c < n → IsTrue (all_fit (eliminated_listed p c (unit_row n w c)))
solved_listed n w c p short e h =
    short_eliminated p c (unit_row n w c) short (unit_short n w c) (omega (arith, e, h)) (length-set _ c _ ∙ length-replicate n (pos 0) ∙ sym e)

-- ---- its numbers, made part by part

pub solved_numbers : (out one two three four five : List ℤ) (p : Row) (c : ℕ) → c < length p.coefs
    → one ≡ out ++ entry p.coefs c ∷ []
    → two ≡ one ++ negate (take c p.coefs)
    → three ≡ two ++ p.den ∷ []
    → four ≡ three ++ negate (drop (c + 1) p.coefs)
    → five ≡ four ++ negate p.constant
    → five ≡ out ++ numbers_of (solved p c)
solved_numbers out one two three four five p c h e f g k m =
    let long : c < length (negate p.coefs) = omega (arith, h, length_negate p.coefs) in
    let front = negate (take c p.coefs) in
    let back = negate (drop (c + 1) p.coefs) in
    let coefs : slice_set (negate p.coefs) c p.den ≡ front ++ p.den ∷ back
    = set_parts (negate p.coefs) c p.den long ∙ rw (take-map neg_ℤ c p.coefs, drop-map neg_ℤ (c + 1) p.coefs) refl in
    rw (m, k, g, f, e, coefs) (joined_parts out front back (negate p.constant) (entry p.coefs c) p.den)
  where
    joined_parts : (out front back rest : List ℤ) (a d : ℤ)
        → ((((out ++ a ∷ []) ++ front) ++ d ∷ []) ++ back) ++ rest ≡ out ++ a ∷ ((front ++ d ∷ back) ++ rest)
    joined_parts out front back rest a d = simp append_assoc refl

-- the opposites of one more entry
pub negated_step : (old now made entries : List ℤ) (i : ℕ) (z d : ℤ) → i < length entries → now ≡ old ++ negate (take i entries) → z ≡ neg_ℤ (get_or entries i d)
    → made ≡ now ++ z ∷ [] → made ≡ old ++ negate (take (i + 1) entries)
negated_step old now made entries i z d h e f g =
    rw (g, e, f, take_more entries i d h, map-append neg_ℤ (take i entries) (get_or entries i d ∷ []))
    (append_assoc old (negate (take i entries)) (neg_ℤ (get_or entries i d) ∷ []))

-- The cut by a short row.
use Rattle.short_tableau.proofs.Words.{◌++◌, ◌∷◌, [], length-append, take_at, All, ◌≡◌, refl, ap, sym, ◌∙◌, subst, ℕ, ◌+◌, ◌-◌, ◌*◌, ◌<◌, ◌≤◌, ℤ, pos, ◌≤ℤ◌, neg_ℤ, ◌-ℤ◌, ints, to_z, of_z, to_z-of_z, w64, fits_signed_from_abs, FitsSigned, IsShort, divided, length-drop, length-take-le, List, length, map, take, drop, arith, append-nil, slice_range, take_all, drop_all, length-map, constant_cut, fractional_parts, residue_of, negate, residue, floor_mod, Row, row_at, mapped, row_of_numbers, numbers_of, IsShortRow, row_from, entry, content-divided, row_size, rows_in, IsShortReduced, IsDense, numbers_again, short_row, divided_positive}
use Rattle.std.proofs.lemmas.Simd.{map-map}
use Rattle.std.proofs.Common.{append_assoc}
use Rattle.std.specs.Prelude.{Result, Ok, Err, OnOk}
use Rattle.std.specs.Result.{IsErr}
use Rattle.short_tableau.proofs.Places.{IsSplit, split_twice, split_read, split_row}

-- ---- the opposite of a short number, as code holds it

held : (z : ℤ) → IsShort z → to_z w64 (of_z w64 z) ≡ z
held z h = to_z-of_z w64 z (fits_signed_from_abs w64 z h)

-- as it stands in a list
pub held_short : (n k : ℕ) (xs : List ℤ) → All IsShort xs → length xs ≡ n → k < n → IsShort (to_z w64 (of_z w64 (entry xs k)))
held_short n k xs all size lt = let h = all k (pos 0) (omega (arith, size, lt)) in subst IsShort (sym (held (entry xs k) h)) h

pub opposite_short : (z : ℤ) → IsShort z → IsShort (neg_ℤ z)
opposite_short z h = omega (arith, ints, h)

negated : (z : ℤ) → pos 0 -ℤ z ≡ neg_ℤ z
negated z = omega (arith, ints)

pub opposite_fits : (z : ℤ) → IsShort z → FitsSigned w64 (pos 0 -ℤ to_z w64 (of_z w64 z))
opposite_fits z h = rw (held z h, negated z) (fits_signed_from_abs w64 (neg_ℤ z) (opposite_short z h))

pub opposite_held : (z : ℤ) → IsShort z → to_z w64 (of_z w64 (pos 0 -ℤ to_z w64 (of_z w64 z))) ≡ neg_ℤ z
opposite_held z h = rw (held z h, negated z) (held (neg_ℤ z) (opposite_short z h))

-- ---- the parts of a row's numbers

pub row_parts : (n : ℕ) (zs rest coefs constant : List ℤ) (z : ℤ) → z ≡ entry zs 0 → rest ≡ drop 1 zs → coefs ≡ take n rest → constant ≡ drop n rest → row_from z coefs constant ≡ row_of_numbers n zs
row_parts n zs rest coefs constant z d e f g = rw (d, f, g, e) refl

-- ---- numbers that are appended, and then written over

pub appended : (a xs ys p q r : List ℤ) (z : ℤ) → p ≡ a ++ z ∷ [] → q ≡ p ++ xs → r ≡ q ++ ys → r ≡ a ++ z ∷ (xs ++ ys)
appended a xs ys p q r z e f g = g ∙ ap (λ (zs : List ℤ). zs ++ ys) (f ∙ ap (λ (zs : List ℤ). zs ++ xs) e) ∙ append_assoc (a ++ z ∷ []) xs ys ∙ append_assoc a (z ∷ []) (xs ++ ys)

-- nothing is claimed where a call failed
pub none_claimed : {T E : Type 0} (P : Type 0) (r : Result T E) → IsErr r → OnOk r P
none_claimed P (Ok v) h = absurd cc
none_claimed P (Err e) h = _

pub written_back : (old more items whole front back made rest : List ℤ) (n len : ℕ) → items ≡ old ++ more → whole ≡ items → length whole ≡ len → length old ≡ n → whole ≡ front ++ back → front ≡ take n whole
    → length made ≡ length back → take len ((front ++ made) ++ rest) ≡ old ++ made
written_back old more items whole front back made rest n len i w l o e f m =
    let size : length (front ++ made) ≡ len = omega (arith, length-append front made, length-append front back, ap length e, l, m) in
    take_at (front ++ made) rest len size ∙ ap (λ (xs : List ℤ). xs ++ made) (f ∙ ap (take n) (w ∙ i) ∙ take_at old more n o)

-- ---- the cut

pub ceiled : (d : ℤ) (xs : List ℤ) (i : ℕ) → length xs ≤ i → mapped (λ x. neg_ℤ (floor_mod (neg_ℤ x) d)) i xs ≡ negate (residue d xs)
ceiled d xs i h = rw (take_all i xs h, drop_all i xs h) (append-nil (map (λ x. neg_ℤ (floor_mod (neg_ℤ x) d)) xs) ∙ sym (map-map neg_ℤ (λ x. floor_mod (neg_ℤ x) d) xs))

-- the cut by a short row, where its numbers are short, is a short row
pub cut_row : (n : ℕ) (r made : Row) → IsShortReduced n 0 r → made ≡ constant_cut r → IsShortRow made → IsShortReduced n 0 made
cut_row n r made h e short =
    let before = row_from r.den (fractional_parts r) (negate (residue_of r).form) in
    let coefs : length (constant_cut r).coefs ≡ n = length-map (fractional_parts r) _ ∙ length-map r.coefs _ ∙ h.row.coefs in
    let constant : length (constant_cut r).constant ≡ 0 + 1 = length-map (negate (residue_of r).form) _ ∙ length-map (residue_of r).form _ ∙ length-map r.constant _ ∙ h.row.constant in
    subst (IsShortReduced n 0) (sym e) (record {
      row = short_row n 0 (constant_cut r) (divided_positive before h.row.positive) coefs constant (subst IsShortRow e short);
      reduced = content-divided before h.row.positive;
      short = subst IsShortRow e short;
    })

-- the row of these numbers, divided, where its numbers are short, is a short row
pub divided_row : (n : ℕ) (zs : List ℤ) (made : Row) → length zs ≡ row_size n → pos 1 ≤ℤ (row_of_numbers n zs).den → made ≡ divided (row_of_numbers n zs) → IsShortRow made → IsShortReduced n 0 made
divided_row n zs made size positive e short =
    let before = row_of_numbers n zs in
    let behind = length-drop 1 zs in
    let coefs : length (divided before).coefs ≡ n = length-map before.coefs _ ∙ length-take-le n (drop 1 zs) (omega (arith, size, behind)) in
    let constant : length (divided before).constant ≡ 0 + 1 = length-map before.constant _ ∙ length-drop n (drop 1 zs) ∙ omega (arith, size, behind) in
    subst (IsShortReduced n 0) (sym e) (record {
      row = short_row n 0 (divided before) (divided_positive before positive) coefs constant (subst IsShortRow e short);
      reduced = content-divided before positive;
      short = subst IsShortRow e short;
    })

module _ (n k i : ℕ) (zs : List ℤ) (dense : IsDense n k zs) (h : i < k) (place : ℕ) (at : place ≡ i * row_size n) (within : place + row_size n ≤ length zs) where
  mid : List ℤ
  mid = take (row_size n) (drop place zs)

  parts : IsSplit n k i zs (take place zs) mid (drop (row_size n) (drop place zs))
  unfolding mid
  parts = split_twice n k i place zs (take place zs) (drop place zs) mid (drop (row_size n) (drop place zs)) dense h at within refl refl refl refl

  range_is : slice_range zs place (place + row_size n) ≡ mid
  unfolding mid
  range_is = let e : (place + row_size n) - place ≡ row_size n = omega arith in ap (λ j. take j (drop place zs)) e

  -- the numbers of row i as they stand
  module _ (copied : List ℤ) (copy : copied ≡ slice_range zs place (place + row_size n)) where
    pub copied_row : row_of_numbers n copied ≡ row_at (rows_in n k zs) i
    copied_row = ap (row_of_numbers n) (copy ∙ range_is) ∙ sym (split_read n k i zs (take place zs) mid (drop (row_size n) (drop place zs)) parts)

    pub copied_short : IsShortReduced n 0 (row_of_numbers n copied)
    copied_short = subst (λ (ys : List ℤ). IsShortReduced n 0 (row_of_numbers n ys)) (sym (copy ∙ range_is)) (split_row n k i zs (take place zs) mid (drop (row_size n) (drop place zs)) parts)

    -- the row that is made of them
    module _ (now : List ℤ) (size : length now ≡ length copied) (cut : row_of_numbers n now ≡ constant_cut (row_of_numbers n copied)) where
      pub made_row : row_of_numbers n now ≡ constant_cut (row_at (rows_in n k zs) i)
      made_row = cut ∙ ap constant_cut copied_row

      pub made_numbers : now ≡ numbers_of (constant_cut (row_at (rows_in n k zs) i))
      made_numbers = sym (numbers_again n now (omega (arith, size ∙ (ap length (copy ∙ range_is) ∙ parts.parts.mid_size)))) ∙ ap numbers_of made_row

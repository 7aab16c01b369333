-- A row rounded by a quotient.
use Rattle.row_laws.proofs.Words.{◌≡◌, refl, ap, sym, ◌∙◌, ℕ, ◌+◌, ◌<◌, ◌≤◌, ℤ, pos, ◌+ℤ◌, ◌-ℤ◌, neg_ℤ, arith, List, [], ◌∷◌, ◌++◌, length, map, slice_set, length-map, length-replicate, get_or-map, length-append, entry, negate, residue, unit_form, add, width, Row, residue_of, rounding, rounded_listed, raised}
use Rattle.short_numbers.proofs.Units.{add_unit, add_back, negate_unit, widen_same}

add_residue : (d : ℤ) (xs : List ℤ) → add xs (residue d xs) ≡ map (raised d) xs
add_residue d [] = refl
add_residue d (x ∷ xs) = ap (λ (rest : List ℤ). raised d x ∷ rest) (add_residue d xs)

raised_at : (d : ℤ) (xs : List ℤ) (q : ℕ) → q < length xs → entry (map (raised d) xs) q ≡ raised d (entry xs q)
raised_at d xs q h = get_or-map (raised d) xs q (pos 0) (pos 0) h

pub rounded_listed_is : (r : Row) (q : ℕ) → q < length r.constant
    → rounded_listed r q ≡ map (raised r.den) r.constant ++ (raised r.den (entry r.constant q) -ℤ r.den) ∷ []
rounded_listed_is r q h = rw (add_residue r.den r.constant, raised_at r.den r.constant q h) refl

length_unit : (w q : ℕ) (z : ℤ) → q ≤ w → length (unit_form w q z) ≡ w + 1
length_unit w q z h = simp (length-append, length-replicate) (omega arith)

-- the constant form of the rounded row
pub rounded_form : (r : Row) (w q : ℕ) → length r.constant ≡ w + 1 → q < w
    → add r.constant (negate (rounding (width r.constant) q (residue_of r))) ≡ slice_set (map (raised r.den) r.constant) q (raised r.den (entry r.constant q) -ℤ r.den)
rounded_form r w q e h =
    let g = residue r.den r.constant in
    let width_is : width r.constant ≡ w = omega (arith, e) in
    let long : length g ≡ w + 1 = simp length-map e in
    let le : q ≤ w = omega (arith, h) in
    let lt : q < length r.constant = omega (arith, e, h) in
    rw (width_is, widen_same w g long)
    (add_back r.constant g (unit_form w q r.den) (e ∙ sym long) (long ∙ sym (length_unit w q r.den le))
    ∙ ap (λ (us : List ℤ). add (add r.constant g) us) (negate_unit w q r.den)
    ∙ ap (λ (sums : List ℤ). add sums (unit_form w q (neg_ℤ r.den))) (add_residue r.den r.constant)
    ∙ add_unit (map (raised r.den) r.constant) w q (neg_ℤ r.den) (simp length-map e) le
    ∙ ap (λ z. slice_set (map (raised r.den) r.constant) q (z +ℤ neg_ℤ r.den)) (raised_at r.den r.constant q lt))

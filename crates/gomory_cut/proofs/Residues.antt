-- The entries of a residue.
use Rattle.gomory_cut.proofs.Words.{◌≡◌, refl, sym, ap, ◌∙◌, ℕ, zero, suc, ◌+◌, ◌-◌, ◌<◌, ◌%◌, ℤ, pos, negsuc, neg_ℤ, ◌≤ℤ◌, List, [], ◌∷◌, ◌++◌, length, take, append_assoc, length-append, arith, All, length-take, length-map, get_or-map, map-append, take-map, ints, floor_mod, coefficients, constant, entry, residue, widen, Row, widened, residue_of}
use Rattle.std.proofs.Math.Nat.{mod-lt, mod-eq_of_lt}
use Rattle.std.proofs.Math.Seq.{get_or-append_seam}
use Rattle.std.proofs.lemmas.List.Elements.{All-map}
use Rattle.affine_forms.specs.Forms.{IsResidue}

mod_is_residue : (z d : ℤ) → pos 1 ≤ℤ d → IsResidue d (floor_mod z d)
mod_is_residue z (pos zero) h = absurd (omega (arith, ints))
mod_is_residue z (negsuc n) h = absurd (omega (arith, ints))
mod_is_residue (pos a) (pos (suc n)) h = record {
  low = omega (arith, ints);
  high = let l : a % suc n < suc n = mod-lt a (omega arith) in omega (arith, ints, l);
}
mod_is_residue (negsuc a) (pos (suc n)) h = record { low = omega (arith, ints); high = omega (arith, ints) }

mod_zero : (d : ℤ) → pos 1 ≤ℤ d → floor_mod (pos 0) d ≡ pos 0
mod_zero (pos zero) h = absurd (omega (arith, ints))
mod_zero (pos (suc n)) h = ap pos (mod-eq_of_lt (omega arith))
mod_zero (negsuc n) h = absurd (omega (arith, ints))

-- entries that are those of a residue
pub residue_entries : (d e : ℤ) (xs ys : List ℤ) → e ≡ d → ys ≡ residue d xs → pos 1 ≤ℤ d → All (IsResidue e) ys
residue_entries d e xs ys same are h = rw (are, same) (All-map (IsResidue d) (λ x. floor_mod (neg_ℤ x) d) xs (λ k x lt. mod_is_residue _ d h))

-- the residue of a row that was widened is 0 at the new place
pub widened_free : (r : Row) (w : ℕ) → length r.constant ≡ w + 1 → pos 1 ≤ℤ r.den → entry (residue_of (widened r)).form w ≡ pos 0
widened_free r w e h =
    let front : length (coefficients r.constant) ≡ w = simp length-take (omega (arith, e)) in
    let long : w < length (widen 1 r.constant) = simp length-append (omega (arith, front)) in
    let zero : entry (widen 1 r.constant) w ≡ pos 0 =
    ap (λ (xs : List ℤ). entry xs w) (append_assoc (coefficients r.constant) (pos 0 ∷ []) (constant r.constant ∷ []))
    ∙ ap (λ (n : ℕ). entry (coefficients r.constant ++ pos 0 ∷ constant r.constant ∷ []) n) (sym front)
    ∙ get_or-append_seam (coefficients r.constant) (pos 0) (constant r.constant ∷ []) (pos 0) in
    get_or-map (λ x. floor_mod (neg_ℤ x) r.den) (widen 1 r.constant) w (pos 0) (pos 0) long
    ∙ ap (λ x. floor_mod (neg_ℤ x) r.den) zero
    ∙ mod_zero r.den h

widen_residue : (d : ℤ) (c : List ℤ) (w : ℕ) → length c ≡ w + 1 → pos 1 ≤ℤ d → widen 1 (residue d c) ≡ residue d (widen 1 c)
widen_residue d c w e h =
    let f : ℤ → ℤ = λ z. floor_mod (neg_ℤ z) d in
    let n : length c - 1 ≡ w = omega (arith, e) in
    let long : length (residue d c) ≡ length c = simp length-map refl in
    let m : length (residue d c) - 1 ≡ w = omega (arith, e, long) in
    let front : take w (residue d c) ≡ residue d (take w c) = take-map f w c in
    let last : entry (residue d c) w ≡ floor_mod (neg_ℤ (entry c w)) d = get_or-map f c w (pos 0) (pos 0) (omega (arith, e)) in
    let zero : floor_mod (pos 0) d ≡ pos 0 = mod_zero d h in
    let parts : residue d (take w c ++ pos 0 ∷ []) ≡ residue d (take w c) ++ floor_mod (pos 0) d ∷ [] = map-append f (take w c) (pos 0 ∷ []) in
    let whole : residue d (take w c ++ pos 0 ∷ [] ++ entry c w ∷ []) ≡ residue d (take w c ++ pos 0 ∷ []) ++ floor_mod (neg_ℤ (entry c w)) d ∷ [] = map-append f (take w c ++ pos 0 ∷ []) (entry c w ∷ []) in
    let middle : take w (residue d c) ++ pos 0 ∷ [] ++ entry (residue d c) w ∷ [] ≡ residue d (take w c ++ pos 0 ∷ [] ++ entry c w ∷ []) = cc in
    ap (λ (k : ℕ). take k (residue d c) ++ pos 0 ∷ [] ++ entry (residue d c) k ∷ []) m
    ∙ middle
    ∙ sym (ap (λ (k : ℕ). residue d (take k c ++ pos 0 ∷ [] ++ entry c k ∷ [])) n)

-- the residue of a row that was widened is the row's, widened
pub widened_residue : (r : Row) (w : ℕ) → length r.constant ≡ w + 1 → pos 1 ≤ℤ r.den → widen 1 (residue_of r).form ≡ (residue_of (widened r)).form
widened_residue r w e h = widen_residue r.den r.constant w e h

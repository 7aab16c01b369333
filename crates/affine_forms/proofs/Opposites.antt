-- The opposite of a form, made in place.
use Rattle.affine_forms.proofs.Words.{◌≡◌, sym, ℕ, ◌+◌, ℤ, pos, negsuc, ◌+ℤ◌, ◌-ℤ◌, neg_ℤ, arith, List, length, slice_set, ints, length-map, get_or-map, entry, negate, opposite, width}
use Rattle.affine_forms.proofs.Units.{add_last}

less_one : (x : ℤ) → x -ℤ pos 1 ≡ x +ℤ negsuc 0
less_one x = omega (arith, ints)

pub opposite_set : (c : List ℤ) (w : ℕ) → length c ≡ w + 1 → slice_set (negate c) w (neg_ℤ (entry c w) -ℤ pos 1) ≡ opposite c
opposite_set c w e =
    let n : length (negate c) ≡ w + 1 = simp length-map e in
    let last : width (negate c) ≡ w = omega (arith, n) in
    let k : entry (negate c) w ≡ neg_ℤ (entry c w) = get_or-map neg_ℤ c w (pos 0) (pos 0) (omega arith) in
    rw (less_one (neg_ℤ (entry c w)), ← k, last) (sym (add_last (negate c) w (negsuc 0) n))

-- A row that is tested to be its form's.
use Rattle.form_basis.proofs.Words.{◌≡◌, ◌∙◌, refl, ap, sym, ℕ, ◌+◌, ◌<◌, ℤ, pos, negsuc, ◌*ℤ◌, ◌≤ℤ◌, unsigned_abs, arith, List, [], ◌∷◌, length, take, drop, length-drop, ints, get_or-take, get_or-drop, length-take-le, entry, scale, divided, row_of_numbers, TableauRows, entry_first, Basis, IsRead, summed, valued, combined, read}
use Rattle.pip_model.proofs.Forms.{entry-scale}
use Rattle.pip_model.proofs.Polynomials.{var, ◌⊗◌, ring}
use Rattle.run_laws.proofs.Sums.{length-scale}
use Rattle.row_laws.proofs.Unchanged.{scaled}
use Rattle.form_laws.proofs.Divided.{same_entries, same_row, same_divided}
use Rattle.form_basis.proofs.ReadForms.{constant_is, columns_count}

swap : (a b c e : ℤ) → a *ℤ b ≡ c *ℤ e → b *ℤ a ≡ e *ℤ c
swap a b c e is = ring (a ∷ b ∷ []) (var 1 ⊗ var 0) (var 0 ⊗ var 1) refl ∙ is ∙ ring (c ∷ e ∷ []) (var 0 ⊗ var 1) (var 1 ⊗ var 0) refl

size_of : (z : ℤ) → pos 1 ≤ℤ z → pos (unsigned_abs z) ≡ z
size_of (pos n) h = refl
size_of (negsuc n) h = absurd (omega (arith, ints, h))

some_size : (z : ℤ) → pos 1 ≤ℤ z → 0 < unsigned_abs z
some_size z h = omega (arith, ints, h)

module _ (t : TableauRows) (b : Basis) (f : List ℤ) (h : IsRead t b f) (row : List ℤ) (size : length row ≡ t.unknowns + 2)
    (coefs : (j : ℕ) → j < t.unknowns → summed t b f j *ℤ entry row 0 ≡ entry row (j + 1) *ℤ b.scale) (last : valued t b f *ℤ entry row 0 ≡ entry row (t.unknowns + 1) *ℤ b.scale) where
  behind_den : length (drop 1 row) ≡ t.unknowns + 1
  behind_den = omega (arith, length-drop 1 row, size)

  coefs_same : scale (entry row 0) (combined t b f).coefs ≡ scale b.scale (take t.unknowns (drop 1 row))
  coefs_same =
      let long : length (scale (entry row 0) (combined t b f).coefs) ≡ t.unknowns = length-scale (entry row 0) (combined t b f).coefs ∙ columns_count t b f h in
      same_entries (scale (entry row 0) (combined t b f).coefs) (scale b.scale (take t.unknowns (drop 1 row)))
      (long ∙ sym (length-scale b.scale (take t.unknowns (drop 1 row)) ∙ length-take-le t.unknowns (drop 1 row) (omega (arith, behind_den))))
      (λ k lt.
      let inside : k < t.unknowns = omega (arith, lt, long) in
      let next : 1 + k ≡ k + 1 = omega arith in
      entry-scale (entry row 0) (combined t b f).coefs k
      ∙ ap (λ (z : ℤ). entry row 0 *ℤ z) (entry_first (summed t b f) t.unknowns k inside)
      ∙ swap (summed t b f k) (entry row 0) (entry row (k + 1)) b.scale (coefs k inside)
      ∙ sym (entry-scale b.scale (take t.unknowns (drop 1 row)) k
      ∙ ap (λ (z : ℤ). b.scale *ℤ z) (get_or-take t.unknowns (drop 1 row) k (pos 0) inside ∙ get_or-drop 1 row k (pos 0) ∙ ap (entry row) next)))

  last_same : scale (entry row 0) (combined t b f).constant ≡ scale b.scale (drop t.unknowns (drop 1 row))
  last_same =
      let one : length (scale (entry row 0) (combined t b f).constant) ≡ 1 = length-scale (entry row 0) (combined t b f).constant ∙ ap length (constant_is t b f h) in
      same_entries (scale (entry row 0) (combined t b f).constant) (scale b.scale (drop t.unknowns (drop 1 row)))
      (one ∙ sym (length-scale b.scale (drop t.unknowns (drop 1 row)) ∙ length-drop t.unknowns (drop 1 row) ∙ omega (arith, behind_den)))
      (λ k lt.
      let none : k ≡ 0 = omega (arith, lt, one) in
      let next : 1 + (t.unknowns + 0) ≡ t.unknowns + 1 = omega arith in
      rw none (
      entry-scale (entry row 0) (combined t b f).constant 0
      ∙ ap (λ (zs : List ℤ). entry row 0 *ℤ entry zs 0) (constant_is t b f h)
      ∙ swap (valued t b f) (entry row 0) (entry row (t.unknowns + 1)) b.scale last
      ∙ sym (entry-scale b.scale (drop t.unknowns (drop 1 row)) 0
      ∙ ap (λ (z : ℤ). b.scale *ℤ z) (get_or-drop t.unknowns (drop 1 row) 0 (pos 0) ∙ get_or-drop 1 row (t.unknowns + 0) (pos 0) ∙ ap (entry row) next))))

  pub row_made : pos 1 ≤ℤ entry row 0 → read t b f ≡ divided (row_of_numbers t.unknowns row)
  row_made den =
      let x = unsigned_abs (entry row 0) in
      let y = unsigned_abs b.scale in
      same_divided x y (combined t b f) (row_of_numbers t.unknowns row) (some_size (entry row 0) den) (some_size b.scale h.basis.positive) h.basis.positive den
      (ap (λ (g : ℤ). scaled g (combined t b f)) (size_of (entry row 0) den)
      ∙ same_row (ring (entry row 0 ∷ b.scale ∷ []) (var 0 ⊗ var 1) (var 1 ⊗ var 0) refl) coefs_same last_same
      ∙ sym (ap (λ (g : ℤ). scaled g (row_of_numbers t.unknowns row)) (size_of b.scale h.basis.positive)))

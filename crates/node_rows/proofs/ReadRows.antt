-- What is read of a form's row is the row.
use Rattle.node_rows.proofs.Words.{◌≡◌, ◌∙◌, refl, ap, sym, subst, ℕ, zero, suc, ◌+◌, ◌*◌, ◌^◌, ◌<◌, ◌≤◌, ℤ, pos, negsuc, ◌*ℤ◌, ◌≤ℤ◌, unsigned_abs, arith, true, List, [], ◌∷◌, length, get_or, All, ints, is_nonneg, entry, Row, entry-scale, IsShort, IsShortRow, TableauRows, place, Basis, IsRead, placed, summed, combined, read, is_nonneg_is, basis_inside, combination_short}
use Rattle.std.specs.List.{list_all}
use Rattle.run_laws.proofs.Sums.{length-scale}
use Rattle.affine_forms.specs.Checks.{Fits}
use Rattle.row_laws.specs.Rows.{IsRow}
use Rattle.row_laws.proofs.ShortRows.{fits_short}
use Rattle.form_laws.proofs.Divided.{undivided}
use Rattle.form_laws.proofs.Turning.{entry_first, length_counted}

short_fit : (z : ℤ) → unsigned_abs z < 2 ^ 63 → Fits z
short_fit z h = fits_short (z ∷ []) (λ k d lt. first k d lt) 0 z (omega arith)
  where
    first : (k : ℕ) (d : ℤ) → k < 1 → IsShort (get_or (z ∷ []) k d)
    first zero d lt = h
    first (suc k) d lt = absurd (omega arith)

module _ (t : TableauRows) (b : Basis) (f : List ℤ) (h : IsRead t b f) where
  combined_short : IsShortRow (combined t b f)
  combined_short = combination_short h.basis f h.bound

  pub combined_row : IsRow t.unknowns t.width (combined t b f)
  combined_row = record {
    positive = h.basis.positive;
    den_fits = short_fit b.scale combined_short.den;
    coefs = length_counted (summed t b f) t.unknowns;
    constant = length_counted (placed t b f) (t.width + 1);
    coefs_fit = fits_short (combined t b f).coefs combined_short.coefs;
    constant_fit = fits_short (combined t b f).constant combined_short.constant;
  }

  -- where no entry is below 0 before the division, none is after it
  pub nonneg_read : ((m : ℕ) → m < t.width + 1 → pos 0 ≤ℤ placed t b f m) → list_all is_nonneg (read t b f).constant ≡ true
  nonneg_read above =
      let u = undivided (combined t b f) h.basis.positive in
      all_nonneg (read t b f).constant (λ m lt.
      let inside : m < t.width + 1 = omega (arith, lt, ap length (ap (λ (r : Row). r.constant) u.is), length-scale (pos u.by) (read t b f).constant, length_counted (placed t b f) (t.width + 1)) in
      let is : pos u.by *ℤ entry (read t b f).constant m ≡ placed t b f m =
      sym (entry-scale (pos u.by) (read t b f).constant m) ∙ ap (place m) u.is ∙ entry_first (placed t b f) (t.width + 1) m inside in
      factor_nonneg u.by (entry (read t b f).constant m) u.positive (subst (λ (z : ℤ). pos 0 ≤ℤ z) (sym is) (above m inside)))
    where
      factor_nonneg : (g : ℕ) (x : ℤ) → 0 < g → pos 0 ≤ℤ (pos g *ℤ x) → pos 0 ≤ℤ x
      factor_nonneg g (pos x) some h = omega (arith, ints)
      factor_nonneg (suc g) (negsuc x) some h = absurd (omega (arith, ints, h))
      factor_nonneg zero (negsuc x) some h = absurd (omega arith)

      all_nonneg : (xs : List ℤ) → ((m : ℕ) → m < length xs → pos 0 ≤ℤ entry xs m) → list_all is_nonneg xs ≡ true
      all_nonneg [] h = refl
      all_nonneg (x ∷ xs) h = rw (is_nonneg_is x (h 0 (omega arith)), all_nonneg xs (λ m lt. h (suc m) (omega (arith, lt)))) refl

pub read_again : (t : TableauRows) (f : List ℤ) (a b : Basis) → b.scale ≡ a.scale → b.most ≡ a.most → b.columns.items ≡ a.columns.items → IsRead t a f → IsRead t b f
read_again t f a b e g i h = record { basis = rw (e, g, i) h.basis; wide = h.wide; bound = rw g h.bound }

-- so many rows are counted in 64 bits
pub few : (t : TableauRows) (b : Basis) (forms : List (List ℤ)) → All (IsRead t b) forms → length b.columns.items < 2 ^ 63 → length forms < 2 ^ 63 → length t.rows < 2 ^ 64
    → length t.rows + length forms < 2 ^ 64
few t b [] h columns forms rows = omega arith
few t b (f ∷ fs) h columns forms rows =
    let first : IsRead t b f = h 0 [] (omega arith) in
    omega (arith, basis_inside first.basis 0 (omega arith), first.basis.size)

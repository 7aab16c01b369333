-- Rows whose numbers stand over one denominator, and the rows that they are once they are divided.
use Rattle.scaled_laws.proofs.Words.{◌≡◌, ◌∙◌, refl, ap, sym, subst, ℕ, zero, suc, ◌+◌, ◌*◌, ◌<◌, ℤ, pos, negsuc, ◌+ℤ◌, ◌-ℤ◌, ◌*ℤ◌, ◌≤ℤ◌, ◌<ℤ◌, arith, List, [], ◌∷◌, length, take, drop, length-drop, ints, get_or-take, length-take-le, take-map, drop-map, drop-set-lt, take-set-lt, slice_set, floor_div, floor_mod, divides, is_nonneg, is_zero, entry, combine, scale, Row, divided, substituted, eliminated, floor-unique, floor_div-law, floor_mod-law, mul_nn, mul_pp, factor_p, var, ◌⊕◌, ◌⊖◌, ◌⊗◌, ring, ring_by, entry-scale, length_floors, divisor, coef, place, IsScaled, row_over, same_row, Undivided, undivided, divided-multiple, eliminated_divided, set_scaled, take_combine, drop_combine, *ℤ_comm}
use Rattle.std.specs.List.{list_all}
use Rattle.form_laws.proofs.Unchanged.{scaled}

-- ---- what a row was divided by

exact_factor : (d : ℤ) (g : ℕ) → pos 0 <ℤ d → floor_div (pos g *ℤ d) d ≡ pos g
exact_factor (pos e) g h = floor-unique (pos g *ℤ pos e) (pos g) e (omega (arith, ints, h)) (omega (arith, ints, turn)) (omega (arith, ints, turn, h))
  where
    turn : pos e *ℤ pos g ≡ pos g *ℤ pos e
    turn = ring (pos e ∷ pos g ∷ []) (var 0 ⊗ var 1) (var 1 ⊗ var 0) refl
exact_factor (negsuc e) g h = absurd (omega (arith, ints, h))

-- ---- what is left of a multiple over the multiple of a number

mod_positive : (g : ℕ) (x : ℤ) (d : ℕ) → 0 < g → 0 < d → floor_mod (pos g *ℤ x) (pos g *ℤ pos d) ≡ pos g *ℤ floor_mod x (pos d)
mod_positive g x d hg hd =
    let q = floor_div x (pos d) in
    let m = floor_mod x (pos d) in
    let some : 0 < g * d = mul_some g d hg hd in
    let both : pos g *ℤ pos d ≡ pos (g * d) = refl in
    let low : pos 0 ≤ℤ (pos g *ℤ (x -ℤ pos d *ℤ q)) = mul_nn (pos g) (x -ℤ pos d *ℤ q) (omega (arith, ints)) (omega (arith, ints, (floor_div-law x d hd).0)) in
    let high : pos 0 <ℤ (pos g *ℤ (pos d *ℤ q +ℤ pos d -ℤ x)) = mul_pp (pos g) (pos d *ℤ q +ℤ pos d -ℤ x) (omega (arith, ints, hg)) (omega (arith, ints, (floor_div-law x d hd).1)) in
    let first : pos g *ℤ (x -ℤ pos d *ℤ q) ≡ pos g *ℤ x -ℤ pos (g * d) *ℤ q = ring (pos g ∷ pos d ∷ x ∷ q ∷ []) (var 0 ⊗ (var 2 ⊖ var 1 ⊗ var 3)) (var 0 ⊗ var 2 ⊖ var 0 ⊗ var 1 ⊗ var 3) refl in
    let second : pos g *ℤ (pos d *ℤ q +ℤ pos d -ℤ x) ≡ pos (g * d) *ℤ q +ℤ pos (g * d) -ℤ pos g *ℤ x
    = ring (pos g ∷ pos d ∷ x ∷ q ∷ []) (var 0 ⊗ (var 1 ⊗ var 3 ⊕ var 1 ⊖ var 2)) (var 0 ⊗ var 1 ⊗ var 3 ⊕ var 0 ⊗ var 1 ⊖ var 0 ⊗ var 2) refl in
    let same : floor_div (pos g *ℤ x) (pos (g * d)) ≡ q = floor-unique (pos g *ℤ x) q (g * d) some (omega (arith, ints, low, first)) (omega (arith, ints, high, second)) in
    let one = floor_mod-law x d hd in
    omega (arith, ints, (floor_mod-law (pos g *ℤ x) (g * d) some), (ap (λ (z : ℤ). pos (g * d) *ℤ z) same))
    ∙ ring_by (pos g ∷ pos d ∷ x ∷ q ∷ m ∷ []) (var 0 ⊗ var 2 ⊖ var 0 ⊗ var 1 ⊗ var 3) (var 0 ⊗ var 4) (var 0) (var 2) (var 1 ⊗ var 3 ⊕ var 4) (sym one) refl
  where
    mul_some : (a b : ℕ) → 0 < a → 0 < b → 0 < a * b
    mul_some (suc a) (suc b) h k = omega arith
    mul_some _ _ h k = absurd (omega arith)

pub mod_over : (g : ℕ) (x d : ℤ) → 0 < g → pos 0 <ℤ d → floor_mod (pos g *ℤ x) (pos g *ℤ d) ≡ pos g *ℤ floor_mod x d
mod_over g x (pos d) hg hd = mod_positive g x d hg (omega (arith, ints, hd))
mod_over g x (negsuc d) hg hd = absurd (omega (arith, ints, hd))

zero_by : (g : ℕ) (z y : ℤ) → 0 < g → pos g *ℤ z ≡ y → is_zero y ≡ is_zero z
zero_by (suc g) (pos zero) (pos zero) h e = refl
zero_by (suc g) (pos (suc z)) (pos (suc y)) h e = refl
zero_by (suc g) (negsuc z) (negsuc y) h e = refl
zero_by zero z y h e = absurd (omega arith)
zero_by (suc g) _ _ h e = absurd (omega (arith, ints))

divides_over : (g : ℕ) (d x : ℤ) → 0 < g → pos 0 <ℤ d → divides (pos g *ℤ d) (pos g *ℤ x) ≡ divides d x
divides_over g d x hg hd = zero_by g (floor_mod x d) (floor_mod (pos g *ℤ x) (pos g *ℤ d)) hg (sym (mod_over g x d hg hd))

wholes_over : (g : ℕ) (d : ℤ) (xs : List ℤ) → 0 < g → pos 0 <ℤ d → list_all (divides (pos g *ℤ d)) (scale (pos g) xs) ≡ list_all (divides d) xs
wholes_over g d [] hg hd = refl
wholes_over g d (x ∷ xs) hg hd = rw (divides_over g d x hg hd, wholes_over g d xs hg hd) refl

module _ (n : ℕ) (l : ℤ) (zs : List ℤ) (h : pos 1 ≤ℤ l) where
  u : Undivided (row_over n l zs)
  u = undivided (row_over n l zs) h

  abbrev now : Row
  now = divided (row_over n l zs)

  den_is : pos u.by *ℤ now.den ≡ l
  den_is = ap (λ (s : Row). s.den) u.is

  pub den_positive : pos 0 <ℤ now.den
  den_positive = factor_p (pos u.by) now.den (omega (arith, ints, u.positive)) (subst (λ (x : ℤ). pos 0 <ℤ x) (sym den_is) (omega (arith, ints, h)))

  factor_is : floor_div l now.den ≡ pos u.by
  factor_is = ap (λ (x : ℤ). floor_div x now.den) (sym den_is) ∙ exact_factor now.den u.by den_positive

  -- over l the divided row has these numbers
  pub over_coef : (k : ℕ) → floor_div l now.den *ℤ coef k now ≡ entry (take n zs) k
  over_coef k = rw factor_is (sym (entry-scale (pos u.by) now.coefs k) ∙ ap (coef k) u.is)

  pub over_place : (k : ℕ) → floor_div l now.den *ℤ place k now ≡ entry (drop n zs) k
  over_place k = rw factor_is (sym (entry-scale (pos u.by) now.constant k) ∙ ap (place k) u.is)

  pub is_scaled : (w : ℕ) → length zs ≡ n + (w + 1) → IsScaled n w l now
  is_scaled w e = record {
    wide = record {
      den = omega (arith, ints, den_positive);
      coefs = length_floors (divisor (row_over n l zs)) (take n zs) ∙ length-take-le n zs (omega (arith, e));
      constant = length_floors (divisor (row_over n l zs)) (drop n zs) ∙ length-drop n zs ∙ omega (arith, e);
    };
    multiple = sym den_is ∙ *ℤ_comm (pos u.by) now.den ∙ ap (λ (x : ℤ). now.den *ℤ x) (sym factor_is);
  }

  -- ---- signs and divisors of the constant form

  sign_by : (g : ℕ) (x y : ℤ) → 0 < g → pos g *ℤ x ≡ y → is_nonneg y ≡ is_nonneg x
  sign_by g (pos x) (negsuc y) some e = absurd (omega (arith, ints))
  sign_by g (negsuc x) (pos y) some e = absurd (omega (arith, ints))
  sign_by g _ _ some e = refl

  signs : (g : ℕ) (xs : List ℤ) → 0 < g → list_all is_nonneg (scale (pos g) xs) ≡ list_all is_nonneg xs
  signs g [] some = refl
  signs g (x ∷ xs) some = rw (sign_by g x (pos g *ℤ x) some refl, signs g xs some) refl

  pub nonneg_over : list_all is_nonneg (drop n zs) ≡ list_all is_nonneg now.constant
  nonneg_over = ap (λ (s : Row). list_all is_nonneg s.constant) (sym u.is) ∙ signs u.by now.constant u.positive

  pub whole_over : list_all (divides l) (drop n zs) ≡ list_all (divides now.den) now.constant
  whole_over = ap (λ (s : Row). list_all (divides s.den) s.constant) (sym u.is) ∙ wholes_over u.by now.den now.constant u.positive den_positive

-- ---- a row put into another

module _ (n : ℕ) (l : ℤ) (p : List ℤ) (c : ℕ) (xs ys : List ℤ) (h : pos 1 ≤ℤ l) (inside : c < n) (above : pos 1 ≤ℤ entry p c) (same : length xs ≡ length p)
    (made : scale l ys ≡ slice_set (combine (entry p c) xs (entry xs c) p) c (entry xs c *ℤ l)) where
  abbrev a : ℤ
  a = entry p c

  abbrev P : Row
  P = row_over n l p

  abbrev X : Row
  X = row_over n l xs

  by : Undivided P
  by = undivided P h

  -- the row p before its division serves as well
  substituted_by : substituted P c X ≡ scaled (pos by.by) (substituted (divided P) c X)
  substituted_by = ap (λ (s : Row). substituted s c X) (sym by.is) ∙ any_multiple (pos by.by) (divided P) X
    where
      by_scale : (g b : ℤ) (us vs : List ℤ) (x : ℤ) → combine (g *ℤ x) us b (scale g vs) ≡ scale g (combine x us b vs)
      by_scale g b [] vs x = refl
      by_scale g b (u ∷ us) [] x = refl
      by_scale g b (u ∷ us) (v ∷ vs) x =
          rw (by_scale g b us vs x, ring (g ∷ x ∷ u ∷ b ∷ v ∷ []) (var 0 ⊗ var 1 ⊗ var 2 ⊖ var 3 ⊗ (var 0 ⊗ var 4)) (var 0 ⊗ (var 1 ⊗ var 2 ⊖ var 3 ⊗ var 4)) refl) refl

      any_multiple : (g : ℤ) (p r : Row) → substituted (scaled g p) c r ≡ scaled g (substituted p c r)
      any_multiple g p r =
          let b = entry r.coefs c in
          let x = entry p.coefs c in
          rw (entry-scale g p.coefs c, by_scale g b r.coefs p.coefs x, by_scale g b r.constant p.constant x)
          (same_row (ring (r.den ∷ g ∷ x ∷ []) (var 0 ⊗ (var 1 ⊗ var 2)) (var 1 ⊗ (var 0 ⊗ var 2)) refl)
          (ap (slice_set (scale g (combine x r.coefs b p.coefs)) c) (ring (b ∷ g ∷ p.den ∷ []) (var 0 ⊗ (var 1 ⊗ var 2)) (var 1 ⊗ (var 0 ⊗ var 2)) refl)
          ∙ set_scaled g (combine x r.coefs b p.coefs) c (b *ℤ p.den)) refl)

  pivot_above : pos 0 <ℤ entry (divided P).coefs c
  pivot_above = factor_p (pos by.by) (entry (divided P).coefs c) (omega (arith, ints, by.positive))
      (subst (λ (x : ℤ). pos 0 <ℤ x) (sym (sym (entry-scale (pos by.by) (divided P).coefs c) ∙ ap (coef c) by.is ∙ get_or-take n p c (pos 0) inside)) (omega (arith, ints, above)))

  -- the made numbers over the new denominator
  made_scaled : scaled l (row_over n a ys) ≡ substituted P c X
  made_scaled =
      rw (get_or-take n p c (pos 0) inside, get_or-take n xs c (pos 0) inside)
      (same_row refl
      (sym (take-map (λ z. l *ℤ z) n ys) ∙ ap (take n) made ∙ take-set-lt n (combine a xs (entry xs c) p) c (entry xs c *ℤ l) inside
      ∙ ap (λ (zs : List ℤ). slice_set zs c (entry xs c *ℤ l)) (sym (take_combine a (entry xs c) xs p n)))
      (sym (drop-map (λ z. l *ℤ z) n ys) ∙ ap (drop n) made ∙ drop-set-lt n (combine a xs (entry xs c) p) c (entry xs c *ℤ l) inside ∙ sym (drop_combine a (entry xs c) xs p n)))

  multiple_of : (g : ℤ) (r : Row) → pos 1 ≤ℤ g → pos 1 ≤ℤ r.den → divided (scaled g r) ≡ divided r
  multiple_of (pos g) r hg hr = divided-multiple g r (omega (arith, ints, hg)) hr
  multiple_of (negsuc g) r hg hr = absurd (omega (arith, ints, hg))

  -- the law: over one denominator a pivot makes these numbers
  pub scaled_made : divided (row_over n a ys) ≡ eliminated (divided P) c (divided X)
  scaled_made =
      sym (multiple_of l (row_over n a ys) h above)
      ∙ ap divided (made_scaled ∙ substituted_by)
      ∙ divided-multiple by.by (substituted (divided P) c X) by.positive (omega (arith, ints, mul_pp l (entry (divided P).coefs c) (omega (arith, ints, h)) pivot_above))
      ∙ sym (eliminated_divided (divided P) c X h pivot_above)

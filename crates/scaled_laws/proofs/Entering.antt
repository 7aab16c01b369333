-- The column that enters is chosen by the numbers over one denominator as by the divided rows.
use Rattle.scaled_laws.proofs.Words.{◌≡◌, ◌∙◌, refl, ap, sym, subst, ℕ, zero, suc, ◌<◌, ℤ, pos, negsuc, ◌-ℤ◌, ◌*ℤ◌, ◌≤ℤ◌, ◌<ℤ◌, arith, Bool, true, false, List, [], ◌∷◌, length, take, map, ints, filter, int_lt, Option, Some, None, IfSome, if◌then◌else◌, is_positive, entry, Row, divided, count_from, cross_products, is_better, best, entering_of, candidates, mul_nn, mul_pp, factor_p, var, ◌⊖◌, ◌⊗◌, ring, entry-scale, length_floors, divisor, coef, row_over, Undivided, undivided}
use Rattle.pip_model.specs.Problem.{lex_less}
use Rattle.form_laws.specs.Choices.{IsCandidate}

-- ---- a positive factor on both sides

lt_by : (f x y : ℤ) → pos 0 <ℤ f → int_lt (f *ℤ x) (f *ℤ y) ≡ int_lt x y
lt_by f x y h = by (int_lt x y) (int_lt (f *ℤ x) (f *ℤ y)) refl refl
  where
    difference : f *ℤ (y -ℤ x) ≡ f *ℤ y -ℤ f *ℤ x
    difference = ring (f ∷ x ∷ y ∷ []) (var 0 ⊗ (var 2 ⊖ var 1)) (var 0 ⊗ var 2 ⊖ var 0 ⊗ var 1) refl

    opposite : f *ℤ (x -ℤ y) ≡ f *ℤ x -ℤ f *ℤ y
    opposite = ring (f ∷ x ∷ y ∷ []) (var 0 ⊗ (var 1 ⊖ var 2)) (var 0 ⊗ var 1 ⊖ var 0 ⊗ var 2) refl

    by : (s t : Bool) → int_lt x y ≡ s → int_lt (f *ℤ x) (f *ℤ y) ≡ t → t ≡ s
    by true false e g = absurd (omega (arith, ints, difference, mul_pp f (y -ℤ x) h (omega (arith, ints, e)), g))
    by false true e g = absurd (omega (arith, ints, opposite, mul_nn f (x -ℤ y) (omega (arith, ints, h)) (omega (arith, ints, e)), g))
    by _ _ e g = refl

lex_step : (f x y s t : ℤ) (us vs xs ys : List ℤ) → pos 0 <ℤ f → s ≡ f *ℤ x → t ≡ f *ℤ y → lex_less us vs ≡ lex_less xs ys → lex_less (s ∷ us) (t ∷ vs) ≡ lex_less (x ∷ xs) (y ∷ ys)
lex_step f x y s t us vs xs ys h e g rest = rw (e, g, lt_by f x y h, lt_by f y x h, rest) refl

positive_by : (g : ℕ) (x y : ℤ) → 0 < g → pos g *ℤ x ≡ y → is_positive y ≡ is_positive x
positive_by (suc g) (pos zero) (pos zero) h e = refl
positive_by (suc g) (pos (suc x)) (pos (suc y)) h e = refl
positive_by (suc g) (negsuc x) (negsuc y) h e = refl
positive_by zero x y h e = absurd (omega arith)
positive_by (suc g) _ _ h e = absurd (omega (arith, ints))

filter_same : (f g : ℕ → Bool) (ks : List ℕ) → ((k : ℕ) → f k ≡ g k) → filter f ks ≡ filter g ks
filter_same f g [] e = refl
filter_same f g (k ∷ ks) e = rw (e k, filter_same f g ks e) refl

module _ (n : ℕ) (l : ℤ) (h : pos 1 ≤ℤ l) where
  by_of : (zs : List ℤ) → Undivided (row_over n l zs)
  by_of zs = undivided (row_over n l zs) h

  by_coef : (zs : List ℤ) (k : ℕ) → pos (by_of zs).by *ℤ coef k (divided (row_over n l zs)) ≡ entry (take n zs) k
  by_coef zs k = sym (entry-scale (pos (by_of zs).by) (divided (row_over n l zs)).coefs k) ∙ ap (coef k) (by_of zs).is

  same_sign : (zs : List ℤ) (k : ℕ) → is_positive (entry (take n zs) k) ≡ is_positive (coef k (divided (row_over n l zs)))
  same_sign zs k = positive_by (by_of zs).by (coef k (divided (row_over n l zs))) (entry (take n zs) k) (by_of zs).positive (by_coef zs k)

  above_over : (zs : List ℤ) (k : ℕ) → pos 1 ≤ℤ entry (take n zs) k → pos 1 ≤ℤ coef k (divided (row_over n l zs))
  above_over zs k above =
      let positive : pos 0 <ℤ coef k (divided (row_over n l zs))
      = factor_p (pos (by_of zs).by) (coef k (divided (row_over n l zs))) (omega (arith, ints, (by_of zs).positive)) (subst (λ (x : ℤ). pos 0 <ℤ x) (sym (by_coef zs k)) (omega (arith, ints, above))) in
      omega (arith, ints, positive)

  same_candidates : (d : ℤ) (p : List ℤ) → candidates (row_over n d p) ≡ candidates (divided (row_over n l p))
  same_candidates d p =
      let long : length (divided (row_over n l p)).coefs ≡ length (take n p) = length_floors (divisor (row_over n l p)) (take n p) in
      filter_same (λ k. is_positive (entry (take n p) k)) (λ k. is_positive (coef k (divided (row_over n l p)))) (count_from 0 (length (take n p))) (same_sign p)
      ∙ ap (λ (m : ℕ). filter (λ k. is_positive (coef k (divided (row_over n l p)))) (count_from 0 m)) (sym long)

  module _ (d : ℤ) (g : ℕ → List ℤ) (p : List ℤ) where
    abbrev given : List ℕ → List Row
    given js = map (λ j. row_over n d (g j)) js

    abbrev over : List ℕ → List Row
    over js = map (λ j. divided (row_over n l (g j))) js

    product_is : (j k b : ℕ) → entry (take n (g j)) k *ℤ entry (take n p) b ≡ (pos (by_of (g j)).by *ℤ pos (by_of p).by) *ℤ (coef k (divided (row_over n l (g j))) *ℤ coef b (divided (row_over n l p)))
    product_is j k b = rw (← by_coef (g j) k, ← by_coef p b)
        (ring (pos (by_of (g j)).by ∷ coef k (divided (row_over n l (g j))) ∷ pos (by_of p).by ∷ coef b (divided (row_over n l p)) ∷ []) (var 0 ⊗ var 1 ⊗ (var 2 ⊗ var 3)) (var 0 ⊗ var 2 ⊗ (var 1 ⊗ var 3)) refl)

    better_same : (js : List ℕ) (k b : ℕ) → is_better (given js) (row_over n d p) k b ≡ is_better (over js) (divided (row_over n l p)) k b
    better_same [] k b = refl
    better_same (j ∷ js) k b =
        let f = pos (by_of (g j)).by *ℤ pos (by_of p).by in
        lex_step f _ _ _ _ (cross_products (given js) (row_over n d p) k b) (cross_products (given js) (row_over n d p) b k) (cross_products (over js) (divided (row_over n l p)) k b) (cross_products (over js) (divided (row_over n l p)) b k) (mul_pp (pos (by_of (g j)).by) (pos (by_of p).by) (omega (arith, ints, (by_of (g j)).positive)) (omega (arith, ints, (by_of p).positive)))
        (product_is j k b) (product_is j b k) (better_same js k b)

    best_same : (js : List ℕ) (b : ℕ) (ks : List ℕ) → best (given js) (row_over n d p) b ks ≡ best (over js) (divided (row_over n l p)) b ks
    best_same js b [] = refl
    best_same js b (k ∷ ks) =
        best_same js (if is_better (given js) (row_over n d p) k b then k else b) ks
        ∙ ap (λ (t : Bool). best (over js) (divided (row_over n l p)) (if t then k else b) ks) (better_same js k b)

    entering_same : (js ks : List ℕ) → entering_of (given js) (row_over n d p) ks ≡ entering_of (over js) (divided (row_over n l p)) ks
    entering_same js [] = refl
    entering_same js (k ∷ ks) = ap Some (best_same js k ks)

    pub entering_over : (js : List ℕ) → entering_of (given js) (row_over n d p) (candidates (row_over n d p)) ≡ entering_of (over js) (divided (row_over n l p)) (candidates (divided (row_over n l p)))
    entering_over js = entering_same js (candidates (row_over n d p)) ∙ ap (entering_of (over js) (divided (row_over n l p))) (same_candidates d p)

-- ---- the column that is chosen

pub chosen : (n : ℕ) (l : ℤ) (p : List ℤ) (o : Option ℕ) → pos 1 ≤ℤ l → IfSome o (IsCandidate n (row_over n (pos 1) p)) → IfSome o (IsCandidate n (divided (row_over n l p)))
chosen n l p None h c = c
chosen n l p (Some k) h c = record { column = c.column; positive = above_over n l h p k c.positive }

-- Steps of a comparison of two columns, row by row.
use Rattle.row_laws.proofs.Words.{◌≡◌, refl, ap, ◌∙◌, ℕ, ◌+◌, ◌<◌, ◌≤◌, ℤ, Bool, true, false, ◌&&◌, List, [], ◌∷◌, length, take, drop, arith, IsTrue, IsFalse, int_lt, if◌then◌else◌, fits, same_number, all_fit, Row, row_at, form_row, cross_products, up_to_difference, is_better, product_at, compared, same_number_no, same_number_yes, drop_more, length-take, get_or-take, ints}
use Rattle.pip_model.specs.Problem.{lex_less}

-- ---- two lists of numbers

lex_same : (z : ℤ) (xs ys : List ℤ) → lex_less (z ∷ xs) (z ∷ ys) ≡ lex_less xs ys
lex_same z xs ys = by (int_lt z z) refl
  where
    by : (t : Bool) → int_lt z z ≡ t → (if t then true else (if t then false else lex_less xs ys)) ≡ lex_less xs ys
    by true e = absurd (omega (arith, ints))
    by false e = refl

lex_differ : (x y : ℤ) (xs ys : List ℤ) → (x ≡ y → ⊥) → lex_less (x ∷ xs) (y ∷ ys) ≡ int_lt x y
lex_differ x y xs ys h = by (int_lt x y) (int_lt y x) refl refl
  where
    by : (s t : Bool) → int_lt x y ≡ s → int_lt y x ≡ t → (if s then true else (if t then false else lex_less xs ys)) ≡ s
    by false false p q = absurd (h (omega (arith, ints)))
    by _ _ p q = refl

fit_less : (x y : ℤ) (rest : List ℤ) → IsFalse (all_fit (x ∷ y ∷ [])) → all_fit (x ∷ y ∷ rest) ≡ false
fit_less x y rest e = by (fits x) (fits y) e
  where
    by : (s t : Bool) → IsFalse (s && (t && true)) → (s && (t && all_fit rest)) ≡ false
    by true true e = absurd cc
    by _ _ e = refl

fit_more : (x y : ℤ) (rest : List ℤ) → IsTrue (all_fit (x ∷ y ∷ [])) → all_fit (x ∷ y ∷ rest) ≡ all_fit rest
fit_more x y rest e = by (fits x) (fits y) e
  where
    by : (s t : Bool) → IsTrue (s && (t && true)) → (s && (t && all_fit rest)) ≡ all_fit rest
    by true true e = refl
    by _ _ e = absurd cc

listed_same : (x y : ℤ) (xs ys : List ℤ) → x ≡ y → IsTrue (all_fit (x ∷ y ∷ [])) → all_fit (up_to_difference (x ∷ xs) (y ∷ ys)) ≡ all_fit (up_to_difference xs ys)
listed_same x y xs ys e f =
    fit_more x y (if same_number x y then up_to_difference xs ys else []) f
    ∙ ap (λ (t : Bool). all_fit (if t then up_to_difference xs ys else [])) (same_number_yes x y e)

listed_differ : (x y : ℤ) (xs ys : List ℤ) → (x ≡ y → ⊥) → IsTrue (all_fit (x ∷ y ∷ [])) → all_fit (up_to_difference (x ∷ xs) (y ∷ ys)) ≡ true
listed_differ x y xs ys h f =
    fit_more x y (if same_number x y then up_to_difference xs ys else []) f
    ∙ ap (λ (t : Bool). all_fit (if t then up_to_difference xs ys else [])) (same_number_no x y h)

-- ---- two columns

abbrev rest_of : List Row → Row → ℕ → ℕ → ℕ → List ℤ
rest_of u p k b i = cross_products (drop (i + 1) u) p k b

module _ (n : ℕ) (rows : List Row) (p : Row) (k b i : ℕ) (enough : n ≤ length rows) (h : i < n) where
  abbrev x : ℤ
  x = product_at rows i p k b

  abbrev y : ℤ
  y = product_at rows i p b k

  abbrev u : List Row
  u = take n rows

  more : drop i u ≡ row_at rows i ∷ drop (i + 1) u
  more =
      drop_more u i (form_row 0 []) (simp length-take (omega arith))
      ∙ ap (λ (r : Row). r ∷ drop (i + 1) u) (get_or-take n rows i (form_row 0 []) h)

  pub better_same : x ≡ y → is_better (drop i u) p k b ≡ is_better (drop (i + 1) u) p k b
  better_same e = rw (more, e) (lex_same y (rest_of u p k b i) (rest_of u p b k i))

  pub better_differ : (x ≡ y → ⊥) → is_better (drop i u) p k b ≡ int_lt x y
  better_differ e = rw more (lex_differ x y (rest_of u p k b i) (rest_of u p b k i) e)

  pub compared_same : x ≡ y → IsTrue (all_fit (x ∷ y ∷ [])) → all_fit (compared (drop i u) p k b) ≡ all_fit (compared (drop (i + 1) u) p k b)
  compared_same e f = rw more (listed_same x y (rest_of u p k b i) (rest_of u p b k i) e f)

  pub compared_differ : (x ≡ y → ⊥) → IsTrue (all_fit (x ∷ y ∷ [])) → all_fit (compared (drop i u) p k b) ≡ true
  compared_differ e f = rw more (listed_differ x y (rest_of u p k b i) (rest_of u p b k i) e f)

  pub compared_refused : IsFalse (all_fit (x ∷ y ∷ [])) → all_fit (compared (drop i u) p k b) ≡ false
  compared_refused e = rw more (fit_less x y (if same_number x y then up_to_difference (rest_of u p k b i) (rest_of u p b k i) else []) e)

-- Steps of a form's value, which is summed product by product.
use Rattle.affine_forms.proofs.Words.{refl, ap, sym, ◌∙◌, Bool, true, ◌&&◌, arith, ints, IsFalse, fits, Fits, drop_all, fit_never, value, value_listed, ◌≡◌, ℕ, ◌+◌, ◌<◌, ℤ, pos, ◌+ℤ◌, ◌*ℤ◌, List, [], ◌∷◌, ◌++◌, length, drop, get_or, IsTrue, drop_more, dot, all_fit, dot_listed, fit_behind, IsChecked, Overflow, is_overflow, Result, IsErr, false}
use Rattle.std.proofs.Math.IntN.{+ℤ_assoc}
use Rattle.affine_forms.proofs.Combined.{refused}

-- the vector's numbers from place i on, and the 1 of the constant
abbrev pub vector_from : ℕ → List ℤ → List ℤ
vector_from i v = drop i v ++ pos 1 ∷ []

-- the numbers of one product
abbrev pub listed_at : ℤ → ℤ → ℤ → List ℤ
listed_at sum c x = (c *ℤ x) ∷ (sum +ℤ c *ℤ x) ∷ []

zero_more : (z : ℤ) → z +ℤ pos 0 ≡ z
zero_more z = omega (arith, ints)

and_true : (b : Bool) → (b && true) ≡ b
and_true true = refl
and_true false = refl

pub product_refused : (sum c x : ℤ) (r : Result ℤ Overflow) → IsErr r → IsFalse (fits (c *ℤ x)) → IsChecked is_overflow (listed_at sum c x) r
product_refused sum c x r e over = refused is_overflow r (listed_at sum c x) e (rw over refl)

pub sum_refused : (sum c x : ℤ) (r : Result ℤ Overflow) → IsErr r → IsTrue (fits (c *ℤ x)) → IsFalse (fits (sum +ℤ c *ℤ x)) → IsChecked is_overflow (listed_at sum c x) r
sum_refused sum c x r e first over = refused is_overflow r (listed_at sum c x) e (rw (first, over) refl)

pub both_made : (sum c x : ℤ) → IsTrue (fits (c *ℤ x)) → IsTrue (fits (sum +ℤ c *ℤ x)) → IsTrue (all_fit (listed_at sum c x))
both_made sum c x first second = rw (first, second) refl

module _ (sum : ℤ) (form v : List ℤ) (i : ℕ) where
  pub value_listed_step : (next : ℤ) → i < length form → i < length v
      → IsTrue (all_fit (listed_at sum (get_or form i (pos 0)) (get_or v i (pos 0))))
      → next ≡ sum +ℤ get_or form i (pos 0) *ℤ get_or v i (pos 0)
      → all_fit (dot_listed sum (drop i form) (vector_from i v)) ≡ all_fit (dot_listed next (drop (i + 1) form) (vector_from (i + 1) v))
  value_listed_step next h k e is =
      rw (drop_more form i (pos 0) h, drop_more v i (pos 0) k, is)
      (fit_behind (listed_at sum (get_or form i (pos 0)) (get_or v i (pos 0))) (dot_listed (sum +ℤ get_or form i (pos 0) *ℤ get_or v i (pos 0)) (drop (i + 1) form) (vector_from (i + 1) v)) e)

  pub value_step : (next : ℤ) → i < length form → i < length v
      → next ≡ sum +ℤ get_or form i (pos 0) *ℤ get_or v i (pos 0)
      → next +ℤ dot (drop (i + 1) form) (vector_from (i + 1) v) ≡ sum +ℤ dot (drop i form) (vector_from i v)
  value_step next h k is = rw (drop_more form i (pos 0) h, drop_more v i (pos 0) k, is) (+ℤ_assoc sum _ _)

  pub value_refused : (r : Result ℤ Overflow) → IsErr r → i < length form → i < length v
      → all_fit (dot_listed sum (drop i form) (vector_from i v)) ≡ all_fit (value_listed form v)
      → IsFalse (all_fit (listed_at sum (get_or form i (pos 0)) (get_or v i (pos 0))))
      → IsChecked is_overflow (value_listed form v) r
  value_refused r e h k so_far over =
      let step : all_fit (dot_listed sum (drop i form) (vector_from i v)) ≡ false =
      rw (drop_more form i (pos 0) h, drop_more v i (pos 0) k)
      (fit_never (listed_at sum (get_or form i (pos 0)) (get_or v i (pos 0))) (dot_listed (sum +ℤ get_or form i (pos 0) *ℤ get_or v i (pos 0)) (drop (i + 1) form) (vector_from (i + 1) v)) over) in
      refused is_overflow r (value_listed form v) e (sym so_far ∙ step)

  -- behind all products: the constant is added last
  form_end : i ≡ length v → length v + 1 ≡ length form → drop i form ≡ get_or form (length v) (pos 0) ∷ []
  form_end at e = rw at (drop_more form (length v) (pos 0) (omega (arith, e)) ∙ ap (λ (t : List ℤ). get_or form (length v) (pos 0) ∷ t) (drop_all (length v + 1) form (omega (arith, e))))

  times_one : (z : ℤ) → z *ℤ pos 1 ≡ z
  times_one z = omega (arith, ints)

  listed_end : i ≡ length v → length v + 1 ≡ length form → Fits (get_or form (length v) (pos 0))
      → all_fit (dot_listed sum (drop i form) (vector_from i v)) ≡ fits (sum +ℤ get_or form (length v) (pos 0))
  listed_end at e fit =
      let last = get_or form (length v) (pos 0) in
      rw (form_end at e, drop_all i v (omega (arith, at)), times_one last) (rw fit (and_true (fits (sum +ℤ last))))

  pub constant_added : (r : Result ℤ Overflow) → IsErr r → i ≡ length v → length v + 1 ≡ length form → Fits (get_or form (length v) (pos 0))
      → all_fit (dot_listed sum (drop i form) (vector_from i v)) ≡ all_fit (value_listed form v)
      → IsFalse (fits (sum +ℤ get_or form (length v) (pos 0)))
      → IsChecked is_overflow (value_listed form v) r
  constant_added r e at long fit so_far over = refused is_overflow r (value_listed form v) e (sym so_far ∙ listed_end at long fit ∙ over)

  pub all_made : i ≡ length v → length v + 1 ≡ length form → Fits (get_or form (length v) (pos 0))
      → all_fit (dot_listed sum (drop i form) (vector_from i v)) ≡ all_fit (value_listed form v)
      → IsTrue (fits (sum +ℤ get_or form (length v) (pos 0)))
      → IsTrue (all_fit (value_listed form v))
  all_made at long fit so_far right = sym so_far ∙ listed_end at long fit ∙ right

  pub value_end : i ≡ length v → length v + 1 ≡ length form
      → sum +ℤ dot (drop i form) (vector_from i v) ≡ value form v
      → sum +ℤ get_or form (length v) (pos 0) ≡ value form v
  value_end at long so_far =
      ap (λ z. sum +ℤ z) (sym (rw (form_end at long, drop_all i v (omega (arith, at)), times_one _) (zero_more _))) ∙ so_far

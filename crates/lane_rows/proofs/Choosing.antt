-- The comparison of two columns over rows of lanes.
use Rattle.lane_rows.proofs.Words.{get_or, ◌≡◌, ◌∙◌, refl, ap, sym, subst, ℕ, zero, suc, ◌+◌, ◌<◌, ◌≤◌, ℤ, pos, negsuc, ◌*ℤ◌, ◌≤ℤ◌, neg_ℤ, ints, arith, true, false, ◌⊎◌, inl, inr, cases_lt, List, [], length, take, drop, take_all, drop_all, get_or-take, get_or_past, length-take-le, list_all, int_lt, is_positive, is_nonneg, entry, Row, candidates, is_better, product_at, row_over, numbers_of, numbers_at, undivided_in, length_made, row_made}
use Rattle.pip_model.specs.Forms.{negate}
use Rattle.pip_model.proofs.Forms.{entry-negate}
use Rattle.run_laws.proofs.LeastValues.{all_nonneg_at}
use Rattle.run_laws.proofs.Tableaux.{nn_at}
use Rattle.row_laws.proofs.Choosing.{no_candidates}
use Rattle.row_laws.proofs.Comparisons.{better_same, better_differ}
use Rattle.lane_rows.proofs.Numbers.{coefficient, numbers_long}

pub front_coefficient : (n : ℕ) (x : List ℤ) (k : ℕ) → n < length x → k < n → entry (take n (numbers_of n x)) k ≡ entry x (k + 1)
front_coefficient n x k h lt = get_or-take n (numbers_of n x) k (pos 0) lt ∙ coefficient n x k h lt

module _ (rows : List (List ℤ)) (p : List ℤ) (n k b i : ℕ) (lt : i < n) (hk : k < n) (hb : b < n) (wide : n < length p) (row : List ℤ) (is : row ≡ get_or rows i []) (here : n < length row) where
  abbrev u : List Row
  u = undivided_in n (pos 1) n rows

  abbrev P : Row
  P = row_over n (pos 1) (numbers_of n p)

  long : length u ≡ n
  long = length_made (λ j. row_over n (pos 1) (numbers_at n rows j)) 0 n

  all : take n u ≡ u
  all = take_all n u (omega (arith, long))

  pub product_is : (x y : ℕ) → x < n → y < n → product_at u i P x y ≡ entry row (x + 1) *ℤ entry p (y + 1)
  product_is x y hx hy =
      ap (λ (r : Row). entry r.coefs x *ℤ entry P.coefs y) (row_made (λ j. row_over n (pos 1) (numbers_at n rows j)) n i lt ∙ ap (λ (z : List ℤ). row_over n (pos 1) (numbers_of n z)) (sym is))
      ∙ ap (λ (z : ℤ). z *ℤ entry P.coefs y) (front_coefficient n row x here hx)
      ∙ ap (λ (z : ℤ). entry row (x + 1) *ℤ z) (front_coefficient n p y wide hy)

  pub same : entry row (k + 1) *ℤ entry p (b + 1) ≡ entry row (b + 1) *ℤ entry p (k + 1) → is_better (drop i u) P k b ≡ is_better (drop (i + 1) u) P k b
  same e = subst (λ (v : List Row). is_better (drop i v) P k b ≡ is_better (drop (i + 1) v) P k b) all
      (better_same n u P k b i (omega (arith, long)) lt (product_is k b hk hb ∙ e ∙ sym (product_is b k hb hk)))

  pub differ : (entry row (k + 1) *ℤ entry p (b + 1) ≡ entry row (b + 1) *ℤ entry p (k + 1) → ⊥)
      → is_better (drop i u) P k b ≡ int_lt (entry row (k + 1) *ℤ entry p (b + 1)) (entry row (b + 1) *ℤ entry p (k + 1))
  differ not = subst (λ (v : List Row). is_better (drop i v) P k b ≡ int_lt (product_at u i P k b) (product_at u i P b k)) all
      (better_differ n u P k b i (omega (arith, long)) lt (λ e. not (sym (product_is k b hk hb) ∙ e ∙ product_is b k hb hk)))
      ∙ rw (product_is k b hk hb, product_is b k hb hk) refl

pub none_better : (rows : List (List ℤ)) (p : List ℤ) (n k b i : ℕ) → n ≤ i
    → is_better (drop i (undivided_in n (pos 1) n rows)) (row_over n (pos 1) (numbers_of n p)) k b ≡ false
none_better rows p n k b i le =
    let e = length_made (λ j. row_over n (pos 1) (numbers_at n rows j)) 0 n in
    ap (λ (u : List Row). is_better u (row_over n (pos 1) (numbers_of n p)) k b) (drop_all i (undivided_in n (pos 1) n rows) (omega (arith, le, e)))

pub sign_there : (n k : ℕ) (p : List ℤ) → n < length p → k < n → is_positive (entry (take n (numbers_of n p)) k) ≡ is_positive (entry p (k + 1))
sign_there n k p h lt = ap is_positive (front_coefficient n p k h lt)

pub front_long : (n k : ℕ) (p : List ℤ) → n < length p → k < n → k < length (take n (numbers_of n p))
front_long n k p h lt = let e = length-take-le n (numbers_of n p) (let f = numbers_long n p h in omega (arith, f)) in omega (arith, e, lt)

-- where no number is above 0, no column enters
opposed : (z : ℤ) → pos 0 ≤ℤ neg_ℤ z → is_positive z ≡ false
opposed (pos zero) h = refl
opposed (pos (suc m)) h = absurd (omega (arith, ints, h))
opposed (negsuc m) h = refl

module _ (n : ℕ) (p : List ℤ) (wide : n < length p) (none : list_all is_nonneg (negate p) ≡ true) where
  not_above : (k : ℕ) → is_positive (entry p k) ≡ false
  not_above k = opposed (entry p k) (subst (λ (z : ℤ). pos 0 ≤ℤ z) (entry-negate p k) (nn_at (negate p) k (all_nonneg_at (negate p) none)))

  behind : (k : ℕ) → n ≤ k → length (take n (numbers_of n p)) ≤ k
  behind k ge =
      let e = length-take-le n (numbers_of n p) (let f = numbers_long n p wide in omega (arith, f)) in
      omega (arith, e, ge)

  there : (k : ℕ) → (k < n) ⊎ (n ≤ k) → is_positive (entry (take n (numbers_of n p)) k) ≡ false
  there k (inl lt) = sign_there n k p wide lt ∙ not_above (k + 1)
  there k (inr ge) = ap is_positive (get_or_past (take n (numbers_of n p)) k (pos 0) (behind k ge))

  pub none_enters : candidates (row_over n (pos 1) (numbers_of n p)) ≡ []
  none_enters = no_candidates (row_over n (pos 1) (numbers_of n p)) (λ k. there k (cases_lt k n))

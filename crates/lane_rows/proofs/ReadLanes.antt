-- What a form makes of the columns' rows, lane by lane.
use Rattle.lane_rows.proofs.Words.{get_or, ◌≡◌, ◌∙◌, ap, sym, subst, ℕ, zero, suc, ◌+◌, ◌^◌, ◌<◌, ◌≤◌, ℤ, pos, ◌+ℤ◌, ◌*ℤ◌, unsigned_abs, arith, eqb, Bool, true, false, ◌⊎◌, inl, inr, List, [], ◌∷◌, length, take, map, replicate, All, ints, unsigned_abs-mul, cases_lt, mul-le, get_or_past, take_all, All-cons, slice_set, if◌then◌else◌, entry, dot, add, scale, count_from, entry-scale, entry-zeros, entry-set_other, length-scale, norm, dot_more, entry_norm, sum_within, entry_first, all_made, length_made, AreAddable, AreLanes, entry-add, IsReadable, line}

one_term : (form : List ℤ) (a : ℤ) (ys : List ℤ) → dot form (take 1 (a ∷ ys)) ≡ entry form 0 *ℤ a
one_term [] a ys = omega (arith, ints)
one_term (x ∷ []) a ys = omega (arith, ints)
one_term (x ∷ y ∷ f) a ys = omega (arith, ints)

-- the sums of the first j rows and of the form's constant
pub record ReadTo (n : ℕ) (rows : List (List ℤ)) (l : ℤ) (form sum : List ℤ) (j : ℕ) : Type 0 where
  pub lanes : AreLanes sum
  pub sums : (k : ℕ) → k < 8 → entry sum k ≡ dot form (take (j + 1) (line n rows l k))

pub read_begun : (n : ℕ) (rows : List (List ℤ)) (l : ℤ) (form sum : List ℤ) (z : ℤ) → sum ≡ slice_set (replicate 8 (pos 0)) 0 z → z ≡ entry form 0 *ℤ l → AreLanes sum → ReadTo n rows l form sum 0
read_begun n rows l form sum z e f h = record { lanes = h; sums = λ k lt. ap (λ (zs : List ℤ). entry zs k) e ∙ by k ∙ sym (one_term form (if eqb k 0 then l else pos 0) (map (λ j. entry (get_or rows j []) k) (count_from 0 n))) }
  where
    nothing : (x : ℤ) → pos 0 ≡ x *ℤ pos 0
    nothing x = omega (arith, ints)

    never : (k : ℕ) → eqb (suc k) 0 ≡ false
    never k = grind arith

    by : (k : ℕ) → entry (slice_set (replicate 8 (pos 0)) 0 z) k ≡ entry form 0 *ℤ (if eqb k 0 then l else pos 0)
    by zero = f
    by (suc k) = entry-set_other (replicate 8 (pos 0)) 0 z (suc k) (λ is. absurd (omega (arith, is))) ∙ entry-zeros 8 (suc k) ∙ nothing (entry form 0)
        ∙ ap (λ (b : Bool). entry form 0 *ℤ (if b then l else pos 0)) (sym (never k))

module _ (n : ℕ) (rows : List (List ℤ)) (l : ℤ) (form sum : List ℤ) (j : ℕ) (can : IsReadable n rows l form) (h : ReadTo n rows l form sum j) (lt : j < n) (row : List ℤ) (f : ℤ)
    (is : row ≡ get_or rows j []) (at : f ≡ entry form (j + 1)) where
  line_long : (k : ℕ) → length (line n rows l k) ≡ n + 1
  line_long k = let e = length_made (λ i. entry (get_or rows i []) k) 0 n in omega (arith, e)

  line_entry : (k : ℕ) → entry (line n rows l k) (j + 1) ≡ entry row k
  line_entry k =
      let e : j + 1 ≡ suc j = omega arith in
      ap (entry (line n rows l k)) e ∙ entry_first (λ i. entry (get_or rows i []) k) n j lt ∙ ap (λ (x : List ℤ). entry x k) (sym is)

  first_within : (k : ℕ) (b : Bool) → unsigned_abs (if b then l else pos 0) ≤ can.most
  first_within k true = can.common
  first_within k false = omega arith

  line_within : (k : ℕ) → All (λ z. unsigned_abs z ≤ can.most) (line n rows l k)
  line_within k = All-cons (λ z. unsigned_abs z ≤ can.most) (if eqb k 0 then l else pos 0) _ (first_within k (eqb k 0))
      (all_made (λ i. entry (get_or rows i []) k) (λ z. unsigned_abs z ≤ can.most) n (λ i less. can.within i [] (omega (arith, less, can.enough)) k))

  row_within : (k : ℕ) → unsigned_abs (entry row k) ≤ can.most
  row_within k = subst (λ (x : List ℤ). unsigned_abs (entry x k) ≤ can.most) (sym is) (can.within j [] (omega (arith, lt, can.enough)) k)

  row_lanes : AreLanes row
  row_lanes = subst AreLanes (sym is) (can.lanes j [] (omega (arith, lt, can.enough)))

  next : (k : ℕ) → k < 8 → entry sum k +ℤ f *ℤ entry row k ≡ dot form (take (j + 1 + 1) (line n rows l k))
  next k less =
      ap (λ (z : ℤ). z +ℤ f *ℤ entry row k) (h.sums k less)
      ∙ ap (λ (z : ℤ). dot form (take (j + 1) (line n rows l k)) +ℤ z *ℤ entry row k) at
      ∙ ap (λ (z : ℤ). dot form (take (j + 1) (line n rows l k)) +ℤ entry form (j + 1) *ℤ z) (sym (line_entry k))
      ∙ sym (dot_more form (line n rows l k) (j + 1) (omega (arith, lt, line_long k)) (omega (arith, lt, can.few, can.entries.long)))

  product_size : (k : ℕ) → unsigned_abs (f *ℤ entry row k) < 2 ^ 31
  product_size k =
      let size : unsigned_abs f ≤ norm form = subst (λ (z : ℤ). unsigned_abs z ≤ norm form) (sym at) (entry_norm form (j + 1)) in
      rw (unsigned_abs-mul f (entry row k)) (omega (arith, mul-le (unsigned_abs f) (unsigned_abs (entry row k)) (norm form) can.most size (row_within k), can.bound))

  nothing_more : (x y z : ℤ) → x ≡ pos 0 → y ≡ pos 0 → unsigned_abs (x +ℤ z *ℤ y) < 2 ^ 31
  nothing_more x y z e g = rw (e, g) (none z)
    where
      none : (z : ℤ) → unsigned_abs (pos 0 +ℤ z *ℤ pos 0) < 2 ^ 31
      none z = let e : pos 0 +ℤ z *ℤ pos 0 ≡ pos 0 = omega (arith, ints) in rw e (omega arith)

  sum_size : (k : ℕ) → unsigned_abs (entry sum k +ℤ f *ℤ entry row k) < 2 ^ 31
  sum_size k = by (cases_lt k 8)
    where
      by : (k < 8) ⊎ (8 ≤ k) → unsigned_abs (entry sum k +ℤ f *ℤ entry row k) < 2 ^ 31
      by (inl less) = rw (next k less) (omega (arith, sum_within can.most form (line n rows l k) (j + 1 + 1) (line_within k), can.bound))
      by (inr past) = nothing_more (entry sum k) (entry row k) f (get_or_past sum k (pos 0) (omega (arith, past, h.lanes.long))) (get_or_past row k (pos 0) (omega (arith, past, row_lanes.long)))

  pub addable : AreAddable sum f row
  addable = record { products = product_size; sums = sum_size }

  pub read_step : (new : List ℤ) → new ≡ add sum (scale f row) → AreLanes new → ReadTo n rows l form new (j + 1)
  read_step new e g = record {
    lanes = g;
    sums = λ k less.
        ap (λ (zs : List ℤ). entry zs k) e ∙ entry-add sum (scale f row) k (omega (arith, h.lanes.long, length-scale f row, row_lanes.long))
        ∙ ap (λ (z : ℤ). entry sum k +ℤ z) (entry-scale f row k) ∙ next k less;
  }

  -- where the coefficient is 0 the sums stay
  pub read_none : f ≡ pos 0 → ReadTo n rows l form sum (j + 1)
  read_none e = record { lanes = h.lanes; sums = λ k less. kept (entry sum k) (entry row k) ∙ ap (λ (z : ℤ). entry sum k +ℤ z *ℤ entry row k) (sym e) ∙ next k less }
    where
      kept : (x y : ℤ) → x ≡ x +ℤ pos 0 *ℤ y
      kept x y = omega (arith, ints)

pub read_end : (n : ℕ) (rows : List (List ℤ)) (l : ℤ) (form sum : List ℤ) (j k : ℕ) → n ≤ j → ReadTo n rows l form sum j → k < 8 → entry sum k ≡ dot form (line n rows l k)
read_end n rows l form sum j k le h lt = h.sums k lt ∙ ap (dot form) (take_all (j + 1) (line n rows l k) (let e = length_made (λ i. entry (get_or rows i []) k) 0 n in omega (arith, e, le)))

-- the first product, which is that of the constant and the denominator
pub constant_small : (n : ℕ) (rows : List (List ℤ)) (l : ℤ) (form : List ℤ) → IsReadable n rows l form → unsigned_abs (entry form 0 *ℤ l) < 2 ^ 31
constant_small n rows l form can = rw (unsigned_abs-mul (entry form 0) l) (omega (arith, mul-le (unsigned_abs (entry form 0)) (unsigned_abs l) (norm form) can.most (entry_norm form 0) can.common, can.bound))

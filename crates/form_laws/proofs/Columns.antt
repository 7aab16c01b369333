-- What the numbers of a basis tell.
use Rattle.form_laws.proofs.Words.{◌≡◌, ◌∙◌, refl, ap, sym, subst, ℕ, zero, suc, ◌+◌, ◌-◌, ◌*◌, ◌^◌, ◌<◌, ◌≤◌, ℤ, pos, ◌+ℤ◌, ◌*ℤ◌, unsigned_abs, arith, rules, nat_lt, true, false, List, [], ◌∷◌, ◌++◌, length, take, drop, get_or, append_assoc, append-nil, flat_map, ints, mul-le, take_all, map_more, All-more, All-push, All-weaker, floor_div, entry, dot, Row, count_from, row_at, form_row, coef, place, over, norm, part, columns_of, IsScaled, IsSummable, All, IsBasis, All-take, All-drop, IsShortRow, IsShort, combination, map, length-map}
use Rattle.std.proofs.lemmas.Grind.{common_steps}
use Rattle.form_laws.proofs.Turning.{entry_first, length_counted}
use Rattle.form_laws.proofs.Sizes.{all_short, size_sum, size_product, spread, own_within, zero_product, three, nothing_before}
pub use Rattle.form_laws.proofs.Sizes.{entry_norm}

-- ---- sums, number after number

pub dot_more : (f c : List ℤ) (i : ℕ) → i < length c → i < length f → dot f (take (i + 1) c) ≡ dot f (take i c) +ℤ entry f i *ℤ entry c i
dot_more [] c i h k = absurd (omega arith)
dot_more (x ∷ f) [] i h k = absurd (omega arith)
dot_more (x ∷ f) (z ∷ c) zero h k = first f (x *ℤ z)
  where
    first : (f : List ℤ) (p : ℤ) → p +ℤ dot f [] ≡ pos 0 +ℤ p
    first [] p = omega (arith, ints)
    first (y ∷ f) p = omega (arith, ints)
dot_more (x ∷ f) (z ∷ c) (suc i) h k =
    let e : suc i + 1 ≡ suc (i + 1) = omega arith in
    rw e (further (x *ℤ z) (dot f (take (i + 1) c)) (dot f (take i c)) (entry f i *ℤ entry c i) (dot_more f c i (omega arith) (omega arith)))
  where
    further : (p a b q : ℤ) → a ≡ b +ℤ q → p +ℤ a ≡ p +ℤ b +ℤ q
    further p a b q e = omega (arith, ints, e)

pub norm_more : (f : List ℤ) (i : ℕ) → i < length f → norm (take (i + 1) f) ≡ norm (take i f) + unsigned_abs (entry f i)
norm_more [] i h = absurd (omega arith)
norm_more (x ∷ f) zero h = omega arith
norm_more (x ∷ f) (suc i) h =
    let e : suc i + 1 ≡ suc (i + 1) = omega arith in
    rw e (more (unsigned_abs x) (norm (take (i + 1) f)) (norm (take i f)) (unsigned_abs (entry f i)) (norm_more f i (omega arith)))
  where
    more : (x a b q : ℕ) → a ≡ b + q → x + a ≡ x + b + q
    more x a b q e = omega (arith, e)

-- ---- a column is summable

pub entry_within : (m : ℕ) (c : List ℤ) (k : ℕ) → All (λ z. unsigned_abs z ≤ m) c → unsigned_abs (entry c k) ≤ m
entry_within m [] k h = omega arith
entry_within m (z ∷ c) zero h = h 0 (pos 0) (omega arith)
entry_within m (z ∷ c) (suc k) h = entry_within m c k (λ j d lt. h (suc j) d (omega (arith, lt)))

pub sum_within : (m : ℕ) (f c : List ℤ) (i : ℕ) → All (λ z. unsigned_abs z ≤ m) c → unsigned_abs (dot f (take i c)) ≤ norm f * m
sum_within m [] c i h = omega arith
sum_within m (x ∷ f) [] zero h = omega arith
sum_within m (x ∷ f) [] (suc i) h = omega arith
sum_within m (x ∷ f) (z ∷ c) zero h = omega arith
sum_within m (x ∷ f) (z ∷ c) (suc i) h =
    omega (arith, size_sum (x *ℤ z) (dot f (take i c)), size_product x z m (h 0 (pos 0) (omega arith)), sum_within m f c i (λ j d lt. h (suc j) d (omega (arith, lt))), spread (unsigned_abs x) (norm f) m)

pub summable : (m : ℕ) (f c : List ℤ) → length c ≤ length f → 1 ≤ m → All (λ z. unsigned_abs z ≤ m) c → norm f * m < 2 ^ 63 → IsSummable f c
summable m f c long some within small = record {
  length = long;
  entries = λ i. omega (arith, entry_norm f i, mul-le (norm f) 1 (norm f) m (omega arith) some, small);
  products = λ i. omega (arith, size_product (entry f i) (entry c i) m (entry_within m c i within), mul-le (unsigned_abs (entry f i)) m (norm f) m (entry_norm f i) (omega arith), small);
  sums = λ i. omega (arith, sum_within m f c i within, small);
}

-- ---- columns

drop_behind : (xs ys : List ℤ) (a : ℕ) → drop (length xs + a) (xs ++ ys) ≡ drop a ys
drop_behind [] ys a = let e : 0 + a ≡ a = omega arith in rw e refl
drop_behind (x ∷ xs) ys a = let e : suc (length xs) + a ≡ suc (length xs + a) = omega arith in rw e (drop_behind xs ys a)

flat_at : (g : ℕ → List ℤ) (n : ℕ) → ((k : ℕ) → length (g k) ≡ n) → (i m k : ℕ) → k < m → take n (drop (k * n) (flat_map g (count_from i m))) ≡ g (i + k)
flat_at g n each i zero k h = absurd (omega arith)
flat_at g n each i (suc m) zero h =
    let none : 0 * n ≡ 0 = grind arith in
    let first : i ≡ i + 0 = omega arith in
    rw none (front (g i) (flat_map g (count_from (i + 1) m)) n (each i) ∙ ap g first)
  where
    front : (xs ys : List ℤ) (n : ℕ) → length xs ≡ n → take n (drop 0 (xs ++ ys)) ≡ xs
    front xs ys n e = grind (arith, common_steps)
flat_at g n each i (suc m) (suc k) h =
    behind (g i) (flat_map g (count_from (i + 1) m)) n (k * n) (suc k * n) (each i) (grind arith)
    ∙ flat_at g n each (i + 1) m k (omega arith)
    ∙ ap g (omega arith)
  where
    behind : (xs ys : List ℤ) (n a b : ℕ) → length xs ≡ n → b ≡ n + a → take n (drop b (xs ++ ys)) ≡ take n (drop a ys)
    behind xs ys n a b e is = ap (take n) (ap (λ (k : ℕ). drop k (xs ++ ys)) (omega (arith, e, is)) ∙ drop_behind xs ys a)

flat_long : (g : ℕ → List ℤ) (n : ℕ) → ((k : ℕ) → length (g k) ≡ n) → (i m : ℕ) → length (flat_map g (count_from i m)) ≡ m * n
flat_long g n each i zero = none n
  where
    none : (n : ℕ) → 0 ≡ 0 * n
    none n = grind arith
flat_long g n each i (suc m) = more (g i) (flat_map g (count_from (i + 1) m)) n m (each i) (flat_long g n each (i + 1) m)
  where
    more : (xs ys : List ℤ) (n m : ℕ) → length xs ≡ n → length ys ≡ m * n → length (xs ++ ys) ≡ suc m * n
    more xs ys n m e f = grind (arith, common_steps)

pub length_over : (L : ℤ) (part : Row → ℤ) (basis : List Row) → length (over L part basis) ≡ length basis
length_over L part basis = length-map basis (λ (r : Row). floor_div L r.den *ℤ part r)

pub column_at : (n w : ℕ) (L : ℤ) (basis : List Row) (k : ℕ) → length basis ≡ n → k < n + w + 1 → take n (drop (k * n) (columns_of n w L basis)) ≡ over L (part n k) basis
column_at n w L basis k e h = flat_at (λ j. over L (part n j) basis) n (λ j. length_over L (part n j) basis ∙ e) 0 (n + w + 1) k h ∙ ap (λ (j : ℕ). over L (part n j) basis) (none k)
  where
    none : (k : ℕ) → 0 + k ≡ k
    none k = omega arith

pub columns_long : (n w : ℕ) (L : ℤ) (basis : List Row) → length basis ≡ n → length (columns_of n w L basis) ≡ (n + w + 1) * n
columns_long n w L basis e = flat_long (λ j. over L (part n j) basis) n (λ j. length_over L (part n j) basis ∙ e) 0 (n + w + 1)

pub column_inside : (n w k : ℕ) → k < n + w + 1 → k * n + n ≤ (n + w + 1) * n
column_inside n w k h = omega (arith, mul-le (k + 1) n (n + w + 1) n (omega arith) (omega arith), spread k 1 n)

pub part_coef : (n k : ℕ) (L : ℤ) (basis : List Row) → k < n → over L (part n k) basis ≡ over L (coef k) basis
part_coef n k L basis h = rw (is n k h) refl
  where
    is : (n k : ℕ) → k < n → nat_lt k n ≡ true
    is n k h = search (rules, h)

pub part_place : (n m : ℕ) (L : ℤ) (basis : List Row) → over L (part n (n + m)) basis ≡ over L (place m) basis
part_place n m L basis = rw (is n m, less n m) refl
  where
    is : (n m : ℕ) → nat_lt (n + m) n ≡ false
    is n m = grind arith

    less : (n m : ℕ) → n + m - n ≡ m
    less n m = omega arith

-- ---- the steps of a sum

pub dot_none : (f c : List ℤ) → pos 0 ≡ dot f (take 0 c)
dot_none [] c = refl
dot_none (x ∷ f) c = refl

pub record DotStep (f c : List ℤ) (i : ℕ) (sum : ℤ) : Type 0 where
  pub short : unsigned_abs (entry f i) < 2 ^ 63
  pub product : unsigned_abs (entry f i *ℤ entry c i) < 2 ^ 63
  pub all : unsigned_abs (sum +ℤ entry f i *ℤ entry c i) < 2 ^ 63
  pub next : sum +ℤ entry f i *ℤ entry c i ≡ dot f (take (i + 1) c)

pub dot_step : (f c : List ℤ) (i : ℕ) (sum : ℤ) → IsSummable f c → i < length c → sum ≡ dot f (take i c) → DotStep f c i sum
dot_step f c i sum h lt e =
    let more : sum +ℤ entry f i *ℤ entry c i ≡ dot f (take (i + 1) c) = ap (λ (z : ℤ). z +ℤ entry f i *ℤ entry c i) e ∙ sym (dot_more f c i lt (omega (arith, lt, h.length))) in
    record { short = h.entries i; product = h.products i; all = rw more (h.sums (i + 1)); next = more }

-- ---- the first rows

pub all_taken : {X : Type 0} (P : X → Type 0) (xs : List X) (j : ℕ) → length xs ≤ j → All P (take j xs) → All P xs
all_taken P xs j le h = subst (All P) (take_all j xs le) h

pub scaled_more : (n w : ℕ) (L : ℤ) (rows : List Row) (j : ℕ) → j < length rows → All (IsScaled n w L) (take j rows) → IsScaled n w L (row_at rows j) → All (IsScaled n w L) (take (j + 1) rows)
scaled_more n w L rows j lt h one = All-more (IsScaled n w L) rows j (form_row 0 []) lt h one

pub over_more : (L : ℤ) (part : Row → ℤ) (rows : List Row) (j : ℕ) → j < length rows
    → over L part (take (j + 1) rows) ≡ over L part (take j rows) ++ (floor_div L (row_at rows j).den *ℤ part (row_at rows j)) ∷ []
over_more L part rows j lt = map_more (λ (r : Row). floor_div L r.den *ℤ part r) rows j (form_row 0 []) lt

pub over_taken : (L : ℤ) (part : Row → ℤ) (rows : List Row) (j : ℕ) → length rows ≤ j → over L part (take j rows) ≡ over L part rows
over_taken L part rows j le = ap (over L part) (take_all j rows le)

pub items_more : (start cols new : List ℤ) (L : ℤ) (part : Row → ℤ) (rows : List Row) (j : ℕ) (z : ℤ) → j < length rows → cols ≡ start ++ over L part (take j rows) → new ≡ cols ++ z ∷ []
    → z ≡ floor_div L (row_at rows j).den *ℤ part (row_at rows j) → new ≡ start ++ over L part (take (j + 1) rows)
items_more start cols new L part rows j z lt e f g =
    f ∙ rw (e, g) (append_assoc start (over L part (take j rows)) _) ∙ ap (λ (zs : List ℤ). start ++ zs) (sym (over_more L part rows j lt))

pub within_more : (cols new : List ℤ) (z : ℤ) (m g : ℕ) → All (λ y. unsigned_abs y ≤ m) cols → new ≡ cols ++ z ∷ [] → m ≤ g → unsigned_abs z ≤ g → All (λ y. unsigned_abs y ≤ g) new
within_more cols new z m g h e le size =
    subst (All (λ y. unsigned_abs y ≤ g)) (sym e) (All-push (λ y. unsigned_abs y ≤ g) cols z (All-weaker (λ y. unsigned_abs y ≤ m) (λ y. unsigned_abs y ≤ g) (λ y k. omega (arith, k, le)) cols h) size)

pub columns_more : (g : ℕ → List ℤ) (k : ℕ) → flat_map g (count_from 0 (k + 1)) ≡ flat_map g (count_from 0 k) ++ g k
columns_more g k = from g 0 k ∙ ap (λ (zs : List ℤ). flat_map g (count_from 0 k) ++ zs) (ap g (none k))
  where
    none : (k : ℕ) → 0 + k ≡ k
    none k = omega arith

    from : (g : ℕ → List ℤ) (i k : ℕ) → flat_map g (count_from i (k + 1)) ≡ flat_map g (count_from i k) ++ g (i + k)
    from g i zero = let e : i ≡ i + 0 = omega arith in append-nil (g i) ∙ ap g e
    from g i (suc k) =
        let e : suc k + 1 ≡ suc (k + 1) = omega arith in
        let f : (i + 1) + k ≡ i + suc k = omega arith in
        rw e (ap (λ (zs : List ℤ). g i ++ zs) (from g (i + 1) k) ∙ sym (append_assoc (g i) (flat_map g (count_from (i + 1) k)) (g ((i + 1) + k))) ∙ ap (λ (j : ℕ). (g i ++ flat_map g (count_from (i + 1) k)) ++ g j) f)

pub norms_more : (m g : ℕ) (forms : List (List ℤ)) (j : ℕ) → j < length forms → All (λ f. norm f ≤ m) (take j forms) → m ≤ g → norm (get_or forms j []) ≤ g → All (λ f. norm f ≤ g) (take (j + 1) forms)
norms_more m g forms j lt h le one = All-more (λ f. norm f ≤ g) forms j [] lt (All-weaker (λ f. norm f ≤ m) (λ f. norm f ≤ g) (λ f k. omega (arith, k, le)) (take j forms) h) one

pub columns_step : (cols new : List ℤ) (g : ℕ → List ℤ) (k : ℕ) → cols ≡ flat_map g (count_from 0 k) → new ≡ cols ++ g k → new ≡ flat_map g (count_from 0 (k + 1))
columns_step cols new g k e f = f ∙ ap (λ (zs : List ℤ). zs ++ g k) e ∙ sym (columns_more g k)

-- ---- what a form has of its own

own_sum : (m : ℕ) (L : ℤ) (f c : List ℤ) (j : ℕ) → unsigned_abs L ≤ m → All (λ z. unsigned_abs z ≤ m) c → unsigned_abs (dot f c +ℤ L *ℤ entry f (length c + j)) ≤ norm f * m
own_sum m L [] c j small h = omega (arith, zero_product L)
own_sum m L (x ∷ f) [] j small h =
    let e : 0 + j ≡ j = omega arith in
    rw (e, nothing_before (L *ℤ entry (x ∷ f) j)) (own_within m L (x ∷ f) j small)
own_sum m L (x ∷ f) (z ∷ c) j small h =
    let e : suc (length c) + j ≡ suc (length c + j) = omega arith in
    rw e (omega (
      arith,
      three (x *ℤ z) (dot f c) (L *ℤ entry f (length c + j)),
      size_product x z m (h 0 (pos 0) (omega arith)),
      own_sum m L f c j small (λ i d lt. h (suc i) d (omega (arith, lt))),
      spread (unsigned_abs x) (norm f) m,
    ))

-- ---- a form and a basis

pub record OwnStep (f c : List ℤ) (L : ℤ) (k : ℕ) : Type 0 where
  pub own : unsigned_abs (entry f k) < 2 ^ 63
  pub product : unsigned_abs (L *ℤ entry f k) < 2 ^ 63
  pub all : unsigned_abs (dot f c +ℤ L *ℤ entry f k) < 2 ^ 63

pub own_step : (m : ℕ) (L : ℤ) (f c : List ℤ) (j : ℕ) → 1 ≤ m → unsigned_abs L ≤ m → All (λ z. unsigned_abs z ≤ m) c → norm f * m < 2 ^ 63 → OwnStep f c L (length c + j)
own_step m L f c j some small h bound = record {
  own = omega (arith, entry_norm f (length c + j), mul-le (norm f) 1 (norm f) m (omega arith) some, bound);
  product = omega (arith, own_within m L f (length c + j) small, bound);
  all = omega (arith, own_sum m L f c j small h, bound);
}

-- ---- what a form makes of the numbers of a basis

module _ {n w : ℕ} {rows : List Row} {L : ℤ} {m : ℕ} {numbers : List ℤ} (h : IsBasis n w rows L m numbers) where
  -- column k stands in the numbers
  pub basis_inside : (k : ℕ) → k < n + w + 1 → k * n + n ≤ length numbers
  basis_inside k lt = omega (arith, ap length h.columns, columns_long n w L rows h.size, column_inside n w k lt)

  pub basis_column : (k : ℕ) → k < n + w + 1 → take n (drop (k * n) numbers) ≡ over L (part n k) rows
  basis_column k lt = rw h.columns (column_at n w L rows k h.size lt)

  some_most : 1 ≤ m
  some_most = omega (arith, ints, h.positive, h.common)

  pub column_within : (k : ℕ) → k < n + w + 1 → All (λ z. unsigned_abs z ≤ m) (over L (part n k) rows)
  column_within k lt = subst (All (λ z. unsigned_abs z ≤ m)) (basis_column k lt)
      (All-take (λ z. unsigned_abs z ≤ m) n (drop (k * n) numbers) (All-drop (λ z. unsigned_abs z ≤ m) (k * n) numbers h.within))

  module _ (f : List ℤ) (bound : norm f * m < 2 ^ 63) where
    pub form_summable : (k : ℕ) → length f ≡ n + (w + 1) → k < n + w + 1 → IsSummable f (over L (part n k) rows)
    form_summable k wide lt =
        summable m f (over L (part n k) rows) (omega (arith, length_over L (part n k) rows, h.size, wide)) some_most (column_within k lt) bound

    pub place_step : (j : ℕ) → j < w + 1 → OwnStep f (over L (place j) rows) L (n + j)
    place_step j lt =
        subst (λ (k : ℕ). OwnStep f (over L (place j) rows) L (k + j)) (length_over L (place j) rows ∙ h.size)
        (own_step m L f (over L (place j) rows) j some_most h.common
        (subst (All (λ z. unsigned_abs z ≤ m)) (part_place n j L rows) (column_within (n + j) (omega (arith, lt)))) bound)

    coefficient_short : (k : ℕ) → k < n → unsigned_abs (dot f (over L (coef k) rows)) < 2 ^ 63
    coefficient_short k lt =
        let within : All (λ z. unsigned_abs z ≤ m) (over L (coef k) rows)
        = subst (All (λ z. unsigned_abs z ≤ m)) (part_coef n k L rows lt) (column_within k (omega (arith, lt))) in
        let sum = subst (λ (c : List ℤ). unsigned_abs (dot f c) ≤ norm f * m) (take_all n (over L (coef k) rows) (omega (arith, length_over L (coef k) rows, h.size)))
        (sum_within m f (over L (coef k) rows) n within) in
        omega (arith, sum, bound)

    all_counted : (g : ℕ → ℤ) (i : ℕ) → ((k : ℕ) → k < i → unsigned_abs (g k) < 2 ^ 63) → All IsShort (map g (count_from 0 i))
    all_counted g i short = all_short (map g (count_from 0 i)) (λ k lt.
        let inside : k < i = omega (arith, lt, length_counted g i) in
        rw (entry_first g i k inside) (short k inside))

    pub combination_short : IsShortRow (combination n w L rows f)
    combination_short = record {
      den = omega (arith, h.common, h.small);
      coefs = all_counted (λ k. dot f (over L (coef k) rows)) n coefficient_short;
      constant = all_counted (λ j. dot f (over L (place j) rows) +ℤ L *ℤ entry f (n + j)) (w + 1) (λ j lt. (place_step j lt).all);
    }

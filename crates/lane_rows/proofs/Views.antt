-- What a table of rows of lanes tells.
use Rattle.lane_rows.proofs.Words.{get_or, ◌≡◌, ◌∙◌, refl, ap, sym, subst, ℕ, zero, suc, ◌+◌, ◌<◌, ◌≤◌, ℤ, pos, ◌+ℤ◌, ◌*ℤ◌, unsigned_abs, arith, ◌⊎◌, inl, inr, eqb, Bool, false, List, [], ◌∷◌, length, take, drop, map, All, ints, cases_eq, get_or-take, length-take-le, get_or_default, All-take, All-drop, IfSome, if◌then◌else◌, floor_div, entry, dot, Row, divided, row_at, count_from, candidates, entering_of, dot-take, IsCandidate, AllWithin, coef, place, over, combination, row_over, AreScaled, entry_within, same_entries, same_row, is_scaled, over_coef, over_place, entry_first, ScaledTable, length_made, row_made, take_made, same_made, map_made, all_made, AreLanes, numbers_of, numbers_at, rows_in, undivided_in, table_of, AreLaned, IsLaned, line}
use Rattle.std.specs.Prelude.{Option}
use Rattle.form_laws.specs.Columns.{IsScaled}
use Rattle.scaled_laws.proofs.Entering.{chosen, entering_over}
use Rattle.lane_rows.proofs.Numbers.{coefficient, coefficients_are, constant_entry, constants_are, numbers_long}

module _ (n : ℕ) (rows : List (List ℤ)) (l : ℤ) (m : ℕ) (t : ScaledTable) (is : table_of n rows l m ≡ t) where
  pub count_is : length rows ≡ length t.rows
  count_is = sym (length_made (λ j. divided (row_over n l (numbers_at n rows j))) 0 (length rows)) ∙ ap (λ (u : ScaledTable). length u.rows) is

  pub columns_are : n ≡ t.unknowns
  columns_are = ap (λ (u : ScaledTable). u.unknowns) is

  pub most_is : m ≡ t.most
  most_is = ap (λ (u : ScaledTable). u.most) is

  pub row_is : (i : ℕ) (x : List ℤ) → i < length t.rows → x ≡ get_or rows i [] → divided (row_over t.unknowns t.scale (numbers_of t.unknowns x)) ≡ row_at t.rows i
  row_is i x lt e = subst (λ (u : ScaledTable). divided (row_over u.unknowns u.scale (numbers_of u.unknowns x)) ≡ row_at u.rows i) is
      (ap (λ (y : List ℤ). divided (row_over n l (numbers_of n y))) e ∙ sym (row_made (λ j. divided (row_over n l (numbers_at n rows j))) (length rows) i (omega (arith, lt, count_is))))

  -- the same over what the rows stand over
  pub row_here : (i : ℕ) (x : List ℤ) → i < length t.rows → x ≡ get_or rows i [] → divided (row_over n l (numbers_of n x)) ≡ row_at t.rows i
  row_here i x lt e =
      ap (λ (y : List ℤ). divided (row_over n l (numbers_of n y))) e
      ∙ sym (row_made (λ j. divided (row_over n l (numbers_at n rows j))) (length rows) i (omega (arith, lt, count_is)))
      ∙ ap (λ (u : ScaledTable). row_at u.rows i) is

  module _ (at : List ℤ) (h : AreLaned n rows at l m) where
    pub laned_at : (j : ℕ) → j < length rows → IsLaned n m (get_or rows j [])
    laned_at j lt = h.each j [] lt

    long_at : (j : ℕ) → j < length rows → n < length (get_or rows j [])
    long_at j lt = let e = (laned_at j lt).lanes.long in omega (arith, e, h.few)

    number_within : (j k : ℕ) → j < length rows → k < n + 1 → unsigned_abs (entry (numbers_at n rows j) k) ≤ m
    number_within j k lt less = by (cases_eq k n)
      where
        before : (k n : ℕ) → k < n + 1 → (k ≡ n → ⊥) → k < n
        before k n lt not = omega (arith, lt, not)

        by : (k ≡ n) ⊎ (k ≡ n → ⊥) → unsigned_abs (entry (numbers_at n rows j) k) ≤ m
        by (inl e) = subst (λ (z : ℤ). unsigned_abs z ≤ m) (sym (ap (entry (numbers_at n rows j)) e ∙ constant_entry n (get_or rows j []) (long_at j lt))) ((laned_at j lt).within 0)
        by (inr not) = subst (λ (z : ℤ). unsigned_abs z ≤ m) (sym (coefficient n (get_or rows j []) k (long_at j lt) (before k n less not))) ((laned_at j lt).within (k + 1))

    all_within : (j : ℕ) → j < length rows → All (λ z. unsigned_abs z ≤ m) (numbers_at n rows j)
    all_within j lt = λ k d less. subst (λ (z : ℤ). unsigned_abs z ≤ m) (sym (get_or_default (numbers_at n rows j) k d (pos 0) less)) (number_within j k lt (let e = numbers_long n (get_or rows j []) (long_at j lt) in omega (arith, less, e)))

    within_from : (i c : ℕ) → i + c ≤ length rows → AllWithin m l (map (λ j. divided (row_over n l (numbers_at n rows j))) (count_from i c))
    within_from i zero le = tt
    within_from i (suc c) le = (
      record {
        coefs = λ x. rw (over_coef n l (numbers_at n rows i) h.positive x) (entry_within m (take n (numbers_at n rows i)) x (All-take (λ z. unsigned_abs z ≤ m) n (numbers_at n rows i) (all_within i (omega arith))));
        places = λ x. rw (over_place n l (numbers_at n rows i) h.positive x) (entry_within m (drop n (numbers_at n rows i)) x (All-drop (λ z. unsigned_abs z ≤ m) n (numbers_at n rows i) (all_within i (omega arith))));
      },
      within_from (i + 1) c (omega (arith, le)),
    )

    are_scaled : AreScaled n 0 l m (rows_in n l (length rows) rows)
    are_scaled = record {
      each = all_made (λ j. divided (row_over n l (numbers_at n rows j))) (IsScaled n 0 l) (length rows) (λ j lt. is_scaled n l (numbers_at n rows j) h.positive 0 (numbers_long n (get_or rows j []) (long_at j lt)));
      positive = h.positive;
      common = h.common;
      within = within_from 0 (length rows) (omega arith);
      small = omega (arith, h.small);
    }

    pub scaled_view : AreScaled t.unknowns 0 t.scale t.most t.rows
    scaled_view = subst (λ (u : ScaledTable). AreScaled u.unknowns 0 u.scale u.most u.rows) is are_scaled

    -- ---- the row that a form makes

    abbrev basis : List Row
    basis = take n (rows_in n l (length rows) rows)

    abbrev column : ℕ → List ℤ
    column k = map (λ j. entry (get_or rows j []) k) (count_from 0 n)

    over_columns : (x : ℕ) → x < n → over l (coef x) basis ≡ column (x + 1)
    over_columns x lt =
        ap (over l (coef x)) (take_made (λ j. divided (row_over n l (numbers_at n rows j))) (length rows) n h.enough)
        ∙ map_made (λ (r : Row). floor_div l r.den *ℤ coef x r) (λ j. divided (row_over n l (numbers_at n rows j))) n
        ∙ same_made _ _ n (λ j less. over_coef n l (numbers_at n rows j) h.positive x ∙ get_or-take n (numbers_at n rows j) x (pos 0) lt ∙ coefficient n (get_or rows j []) x (long_at j (omega (arith, less, h.enough))) lt)

    over_constants : over l (place 0) basis ≡ column 0
    over_constants =
        ap (over l (place 0)) (take_made (λ j. divided (row_over n l (numbers_at n rows j))) (length rows) n h.enough)
        ∙ map_made (λ (r : Row). floor_div l r.den *ℤ place 0 r) (λ j. divided (row_over n l (numbers_at n rows j))) n
        ∙ same_made _ _ n (λ j less. over_place n l (numbers_at n rows j) h.positive 0 ∙ ap (λ (zs : List ℤ). entry zs 0) (constants_are n (get_or rows j []) (long_at j (omega (arith, less, h.enough)))))

    column_long : (k : ℕ) → length (column k) ≡ n
    column_long k = length_made (λ j. entry (get_or rows j []) k) 0 n

    front_dot : (f : List ℤ) (k : ℕ) → dot (take n f) (column k) ≡ dot f (column k)
    front_dot f k = ap (λ (j : ℕ). dot (take j f) (column k)) (sym (column_long k)) ∙ dot-take f (column k)

    behind_dot : (form : List ℤ) (k : ℕ) → n < length form → dot (drop 1 form) (column k) ≡ dot (numbers_of n form) (column k)
    behind_dot form k long = sym (front_dot (drop 1 form) k) ∙ ap (λ (f : List ℤ). dot f (column k)) (sym (coefficients_are n form long)) ∙ front_dot (numbers_of n form) k

    first_dot : (form : List ℤ) (a : ℤ) (ys : List ℤ) → 0 < length form → dot form (a ∷ ys) ≡ dot (drop 1 form) ys +ℤ a *ℤ entry form 0
    first_dot [] a ys lt = absurd (omega arith)
    first_dot (x ∷ f) a ys lt = omega (arith, ints)

    coefficient_made : (form : List ℤ) (x : ℕ) → n < length form → x < n → dot form (line n rows l (x + 1)) ≡ dot (numbers_of n form) (over l (coef x) basis)
    coefficient_made form x long lt =
        ap (λ (b : Bool). dot form ((if b then l else pos 0) ∷ column (x + 1))) (never x)
        ∙ first_dot form (pos 0) (column (x + 1)) (omega (arith, long))
        ∙ none (dot (drop 1 form) (column (x + 1))) (entry form 0)
        ∙ behind_dot form (x + 1) long
        ∙ ap (dot (numbers_of n form)) (sym (over_columns x lt))
      where
        none : (s z : ℤ) → s +ℤ pos 0 *ℤ z ≡ s
        none s z = omega (arith, ints)

        never : (x : ℕ) → eqb (x + 1) 0 ≡ false
        never x = grind arith

    pub constant_made : (form : List ℤ) → n < length form → dot form (line n rows l 0) ≡ dot (numbers_of n form) (over l (place 0) basis) +ℤ l *ℤ entry (numbers_of n form) (n + 0)
    constant_made form long =
        let at : n + 0 ≡ n = omega arith in
        first_dot form l (column 0) (omega (arith, long))
        ∙ ap (λ (s : ℤ). s +ℤ l *ℤ entry form 0) (behind_dot form 0 long ∙ ap (dot (numbers_of n form)) (sym over_constants))
        ∙ ap (λ (z : ℤ). dot (numbers_of n form) (over l (place 0) basis) +ℤ l *ℤ z) (sym (ap (entry (numbers_of n form)) at ∙ constant_entry n form long))

    row_read : (form made : List ℤ) → n < length form → n < length made → ((k : ℕ) → k < 8 → entry made k ≡ dot form (line n rows l k))
        → row_over n l (numbers_of n made) ≡ combination n 0 l basis (numbers_of n form)
    row_read form made long size each = same_row refl
        (same_entries (take n (numbers_of n made)) _ (length-take-le n (numbers_of n made) (omega (arith, numbers_long n made size)) ∙ sym (length_made (λ k. dot (numbers_of n form) (over l (coef k) basis)) 0 n))
        (λ k lt.
        let small : k < n = let e = length-take-le n (numbers_of n made) (let f = numbers_long n made size in omega (arith, f)) in omega (arith, lt, e) in
        get_or-take n (numbers_of n made) k (pos 0) small ∙ coefficient n made k size small ∙ each (k + 1) (omega (arith, small, h.few)) ∙ coefficient_made form k long small
        ∙ sym (entry_first (λ k. dot (numbers_of n form) (over l (coef k) basis)) n k small)))
        (constants_are n made size ∙ ap (λ (z : ℤ). z ∷ []) (each 0 (omega arith) ∙ constant_made form long))

    pub read_row : (form made : List ℤ) → AreLanes form → AreLanes made → ((k : ℕ) → k < 8 → entry made k ≡ dot form (line n rows l k))
        → row_over t.unknowns t.scale (numbers_of t.unknowns made) ≡ combination t.unknowns 0 t.scale (take t.unknowns t.rows) (numbers_of t.unknowns form)
    read_row form made f g each = subst (λ (u : ScaledTable). row_over u.unknowns u.scale (numbers_of u.unknowns made) ≡ combination u.unknowns 0 u.scale (take u.unknowns u.rows) (numbers_of u.unknowns form)) is
        (row_read form made (omega (arith, f.long, h.few)) (omega (arith, g.long, h.few)) each)

    -- ---- the column that enters

    pub entered : (p : List ℤ) → entering_of (undivided_in n (pos 1) n rows) (row_over n (pos 1) (numbers_of n p)) (candidates (row_over n (pos 1) (numbers_of n p)))
        ≡ entering_of (take t.unknowns t.rows) (divided (row_over t.unknowns t.scale (numbers_of t.unknowns p))) (candidates (divided (row_over t.unknowns t.scale (numbers_of t.unknowns p))))
    entered p =
        entering_over n l h.positive (pos 1) (numbers_at n rows) (numbers_of n p) (count_from 0 n)
        ∙ ap (λ (rs : List Row). entering_of rs (divided (row_over n l (numbers_of n p))) (candidates (divided (row_over n l (numbers_of n p))))) (sym (take_made (λ j. divided (row_over n l (numbers_at n rows j))) (length rows) n h.enough))
        ∙ ap (λ (u : ScaledTable). entering_of (take u.unknowns u.rows) (divided (row_over u.unknowns u.scale (numbers_of u.unknowns p))) (candidates (divided (row_over u.unknowns u.scale (numbers_of u.unknowns p))))) is

    pub entered_candidate : (p : List ℤ) (o : Option ℕ) → IfSome o (IsCandidate n (row_over n (pos 1) (numbers_of n p))) → IfSome o (IsCandidate t.unknowns (divided (row_over t.unknowns t.scale (numbers_of t.unknowns p))))
    entered_candidate p o c = subst (λ (u : ScaledTable). IfSome o (IsCandidate u.unknowns (divided (row_over u.unknowns u.scale (numbers_of u.unknowns p))))) is (chosen n l (numbers_of n p) o h.positive c)

-- The signs of the constants.
use Rattle.lane_rows.proofs.Words.{get_or, ◌≡◌, ◌∙◌, refl, ap, sym, ℕ, ◌+◌, ◌-◌, ◌<◌, ◌≤◌, ℤ, pos, negsuc, ◌≤ℤ◌, ◌<ℤ◌, arith, ◌⊎◌, inl, inr, zero, suc, Bool, true, false, List, [], length, ◌&&◌, list_all, ints, cases_lt, is_nonneg, entry, Row, row_at, nonneg_over, ScaledTable, IsFirstBelow, numbers_at, table_of, AreLaned, IsLaned, is_nonneg_is, nonneg_is}
use Rattle.std.proofs.lemmas.List.Folds.{list_all_at}
use Rattle.lane_rows.proofs.Numbers.{constants_are}
use Rattle.lane_rows.proofs.Views.{count_is, columns_are, row_here}

below_zero : (z : ℤ) → z <ℤ pos 0 → is_nonneg z ≡ false
below_zero (pos n) h = absurd (omega (arith, ints, h))
below_zero (negsuc n) h = refl

module _ (n : ℕ) (rows : List (List ℤ)) (l : ℤ) (m : ℕ) (t : ScaledTable) (is : table_of n rows l m ≡ t) (at : List ℤ) (h : AreLaned n rows at l m) where
  sign : (j : ℕ) → j < n → list_all is_nonneg (row_at t.rows j).constant ≡ (is_nonneg (entry at (j + 1)) && true)
  sign j lt =
      let inside : j < length rows = omega (arith, lt, h.enough) in
      let count = count_is n rows l m t is in
      let row : IsLaned n m (get_or rows j []) = h.each j [] inside in
      sym (ap (λ (r : Row). list_all is_nonneg r.constant) (row_here n rows l m t is j (get_or rows j []) (omega (arith, inside, count)) refl))
      ∙ sym (nonneg_over n l (numbers_at n rows j) h.positive)
      ∙ ap (list_all is_nonneg) (constants_are n (get_or rows j []) (omega (arith, row.lanes.long, h.few)))
      ∙ ap (λ (z : ℤ). is_nonneg z && true) (sym (h.vertex.constants j lt))

  nonneg_at : (j : ℕ) → j < n → pos 0 ≤ℤ entry at (j + 1) → list_all is_nonneg (row_at t.rows j).constant ≡ true
  nonneg_at j lt le = sign j lt ∙ ap (λ (b : Bool). b && true) (is_nonneg_is (entry at (j + 1)) le)

  module _ (lane : ℕ) (first : IsFirstBelow at lane) where
    some : 1 ≤ lane
    some = by lane first.below
      where
        by : (k : ℕ) → entry at k <ℤ pos 0 → 1 ≤ k
        by zero lt = let e = h.vertex.scale in let p = h.positive in absurd (omega (arith, ints, lt, e, p))
        by (suc k) lt = omega arith

    inside : lane ≤ n
    inside = by (cases_lt n lane)
      where
        by : (n < lane) ⊎ (lane ≤ n) → lane ≤ n
        by (inl lt) = let e = h.vertex.unused lane lt in let b = first.below in absurd (omega (arith, ints, e, b))
        by (inr le) = le

    pub first_row : list_all is_nonneg (row_at t.rows (lane - 1)).constant ≡ false
    first_row =
        let e : lane - 1 + 1 ≡ lane = omega (arith, some) in
        sign (lane - 1) (omega (arith, some, inside)) ∙ ap (λ (k : ℕ). is_nonneg (entry at k) && true) e ∙ ap (λ (b : Bool). b && true) (below_zero (entry at lane) first.below)

    pub before_first : (j : ℕ) → j < lane - 1 → list_all is_nonneg (row_at t.rows j).constant ≡ true
    before_first j lt = nonneg_at j (omega (arith, lt, some, inside)) (first.before (j + 1) (omega (arith, lt)))

  pub none_below : list_all is_nonneg at ≡ true → (j : ℕ) → j < t.unknowns → list_all is_nonneg (row_at t.rows j).constant ≡ true
  none_below all j lt =
      nonneg_at j (omega (arith, lt, (columns_are n rows l m t is))) (by (is_nonneg (entry at (j + 1))) refl)
    where
      small : j < n
      small = let e = columns_are n rows l m t is in omega (arith, lt, e)

      by : (b : Bool) → is_nonneg (entry at (j + 1)) ≡ b → pos 0 ≤ℤ entry at (j + 1)
      by true e = nonneg_is (entry at (j + 1)) e
      by false e = let f = list_all_at is_nonneg at (j + 1) (pos 0) (omega (arith, small, h.few, h.vertex.lanes.long)) e in absurd (differ (sym all ∙ f))
        where
          differ : true ≡ false → ⊥
          differ e = cc

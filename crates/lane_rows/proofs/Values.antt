-- The constants of rows that forms make, by the vertex.
use Rattle.lane_rows.proofs.Words.{get_or, ◌≡◌, ◌∙◌, refl, ap, sym, subst, ℕ, zero, suc, ◌+◌, ◌*◌, ◌<◌, ◌≤◌, ◌^◌, ℤ, pos, ◌+ℤ◌, ◌*ℤ◌, unsigned_abs, arith, eqb, Bool, true, false, ◌⊎◌, inl, inr, List, [], ◌∷◌, length, take, map, All, ints, unsigned_abs-mul, cases_lt, mul-le, get_or-take, get_or_past, length-take-le, take_all, get_or_default, All-cons, if◌then◌else◌, entry, dot, count_from, norm, combination, place, entry_norm, sum_within, same_entries, entry_first, ScaledTable, all_made, length_made, AreLanes, IsSummable, numbers_of, table_of, AreLaned, IsLaned, line, dot-none}
use Rattle.lane_rows.proofs.Views.{constant_made}

dot_front : (f u : List ℤ) (k : ℕ) → ((j : ℕ) → k ≤ j → entry u j ≡ pos 0) → dot f (take k u) ≡ dot f u
dot_front [] u k h = refl
dot_front (x ∷ f) [] zero h = refl
dot_front (x ∷ f) [] (suc k) h = refl
dot_front (x ∷ f) (y ∷ u) zero h = none x y (dot f u) (h 0 (omega arith)) (sym (dot-none f) ∙ dot_front f u 0 (λ j le. h (suc j) (omega (arith, le))))
  where
    none : (x y s : ℤ) → y ≡ pos 0 → pos 0 ≡ s → pos 0 ≡ x *ℤ y +ℤ s
    none x y s e f = rw e (omega (arith, ints, f))
dot_front (x ∷ f) (y ∷ u) (suc k) h = ap (λ (s : ℤ). x *ℤ y +ℤ s) (dot_front f u k (λ j le. h (suc j) (omega (arith, le))))

module _ (n : ℕ) (rows : List (List ℤ)) (l : ℤ) (m : ℕ) (at : List ℤ) (h : AreLaned n rows at l m) (form : List ℤ) (f : AreLanes form) (bound : norm form * m < 2 ^ 31) where
  at_within : (k : ℕ) → unsigned_abs (entry at k) ≤ m
  at_within zero = subst (λ (z : ℤ). unsigned_abs z ≤ m) (sym h.vertex.scale) h.common
  at_within (suc j) = by (cases_lt j n)
    where
      at_one : j + 1 ≡ suc j
      at_one = omega arith

      row : j < n → IsLaned n m (get_or rows j [])
      row lt = h.each j [] (omega (arith, lt, h.enough))

      by : (j < n) ⊎ (n ≤ j) → unsigned_abs (entry at (suc j)) ≤ m
      by (inl lt) = subst (λ (z : ℤ). unsigned_abs z ≤ m) (sym (sym (ap (entry at) at_one) ∙ h.vertex.constants j lt)) ((row lt).within 0)
      by (inr le) = subst (λ (z : ℤ). unsigned_abs z ≤ m) (sym (h.vertex.unused (suc j) (omega (arith, le)))) (omega arith)

  all_within : All (λ z. unsigned_abs z ≤ m) at
  all_within = λ k d lt. subst (λ (z : ℤ). unsigned_abs z ≤ m) (sym (get_or_default at k d (pos 0) lt)) (at_within k)

  pub vertex_summable : IsSummable form at
  vertex_summable = record {
    products = λ k. rw (unsigned_abs-mul (entry form k) (entry at k)) (omega (arith, mul-le (unsigned_abs (entry form k)) (unsigned_abs (entry at k)) (norm form) m (entry_norm form k) (at_within k), bound));
    sums = λ k. omega (arith, sum_within m form at k all_within, bound);
  }

  front : take (n + 1) at ≡ line n rows l 0
  front = same_entries (take (n + 1) at) (line n rows l 0) (front_long ∙ sym line_long) (λ k lt. by k (omega (arith, lt, front_long)))
    where
      front_long : length (take (n + 1) at) ≡ n + 1
      front_long = length-take-le (n + 1) at (omega (arith, h.vertex.lanes.long, h.few))

      line_long : length (line n rows l 0) ≡ n + 1
      line_long = let e = length_made (λ j. entry (get_or rows j []) 0) 0 n in omega (arith, e)

      by : (k : ℕ) → k < n + 1 → entry (take (n + 1) at) k ≡ entry (line n rows l 0) k
      by zero lt = get_or-take (n + 1) at 0 (pos 0) lt ∙ h.vertex.scale
      by (suc j) lt =
          get_or-take (n + 1) at (suc j) (pos 0) lt ∙ sym (ap (entry at) (omega arith)) ∙ h.vertex.constants j (omega (arith, lt))
          ∙ sym (entry_first (λ i. entry (get_or rows i []) 0) n j (omega (arith, lt)))

  value_line : dot form at ≡ dot form (line n rows l 0)
  value_line = sym (dot_front form at (n + 1) (λ j le. h.vertex.unused j (omega (arith, le)))) ∙ ap (dot form) front

  pub value_row : (t : ScaledTable) → table_of n rows l m ≡ t → dot form at ≡ place 0 (combination t.unknowns 0 t.scale (take t.unknowns t.rows) (numbers_of t.unknowns form))
  value_row t is = value_line ∙ constant_made n rows l m t is at h form (omega (arith, f.long, h.few))
      ∙ ap (λ (u : ScaledTable). place 0 (combination u.unknowns 0 u.scale (take u.unknowns u.rows) (numbers_of u.unknowns form))) is

  -- ---- the numbers of a row that is read

  first_within : (b : Bool) → unsigned_abs (if b then l else pos 0) ≤ m
  first_within true = h.common
  first_within false = omega arith

  line_within : (k : ℕ) → All (λ z. unsigned_abs z ≤ m) (line n rows l k)
  line_within k = All-cons (λ z. unsigned_abs z ≤ m) (if eqb k 0 then l else pos 0) _ (first_within (eqb k 0))
      (all_made (λ i. entry (get_or rows i []) k) (λ z. unsigned_abs z ≤ m) n (λ i less. (h.each i [] (omega (arith, less, h.enough))).within k))

  module _ (made : List ℤ) (g : AreLanes made) (each : (k : ℕ) → k < 8 → entry made k ≡ dot form (line n rows l k)) where
    pub made_within : (k : ℕ) → unsigned_abs (entry made k) ≤ norm form * m
    made_within k = by (cases_lt k 8)
      where
        nothing : (z : ℤ) → z ≡ pos 0 → unsigned_abs z ≤ norm form * m
        nothing z e = rw e (omega arith)

        by : (k < 8) ⊎ (8 ≤ k) → unsigned_abs (entry made k) ≤ norm form * m
        by (inl lt) = subst (λ (z : ℤ). unsigned_abs z ≤ norm form * m) (sym (each k lt ∙ sym (ap (dot form) (take_all (length (line n rows l k)) (line n rows l k) (omega arith)))))
            (sum_within m form (line n rows l k) (length (line n rows l k)) (line_within k))
        by (inr past) = nothing (entry made k) (get_or_past made k (pos 0) (omega (arith, past, g.long)))

    pub made_unused : (k : ℕ) → n < k → entry made k ≡ pos 0
    made_unused k more = by (cases_lt k 8)
      where
        never : (k : ℕ) → n < k → eqb k 0 ≡ false
        never k lt = grind arith

        zeros : (j : ℕ) → entry (line n rows l k) j ≡ pos 0
        zeros zero = ap (λ (b : Bool). if b then l else pos 0) (never k more)
        zeros (suc j) = there (cases_lt j n)
          where
            there : (j < n) ⊎ (n ≤ j) → entry (map (λ i. entry (get_or rows i []) k) (count_from 0 n)) j ≡ pos 0
            there (inl lt) = entry_first (λ i. entry (get_or rows i []) k) n j lt ∙ (h.each j [] (omega (arith, lt, h.enough))).unused k more
            there (inr le) = get_or_past (map (λ i. entry (get_or rows i []) k) (count_from 0 n)) j (pos 0) (let e = length_made (λ i. entry (get_or rows i []) k) 0 n in omega (arith, e, le))

        by : (k < 8) ⊎ (8 ≤ k) → entry made k ≡ pos 0
        by (inl lt) = each k lt ∙ sym (dot_front form (line n rows l k) 0 (λ j le. zeros j)) ∙ dot-none form
        by (inr past) = get_or_past made k (pos 0) (omega (arith, past, g.long))

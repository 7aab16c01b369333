-- The parts of a point's rows: those of the columns, those that forms make, those of cuts. Which of them are below 0.
use Rattle.lane_run.proofs.Words.{◌≡◌, ◌∙◌, refl, ap, sym, ℕ, zero, suc, ◌+◌, ◌-◌, ◌<◌, ◌≤◌, ℤ, pos, negsuc, ◌≤ℤ◌, ◌<ℤ◌, arith, Bool, true, false, List, [], ◌∷◌, ◌++◌, length, get_or, take, drop, map, length-drop, ◌&&◌, ints, get_or-take, get_or-drop, length-take-le, map-append, take_at, drop_at, is_nonneg, entry, constant, Row, row_at, form_row, divided, combination, by_form, place, made, wide_by_form, row_over, AreScaled, kept_of, ScaledTable, AreUnused, constants_are, is_not_below, AreNotBelow, IsFirstRowBelow, made_rows, value_of, run_rows, forms_of}
use Rattle.std.specs.List.{list_all}
use Rattle.form_laws.proofs.Divided.{same_row}
use Rattle.form_laws.proofs.Turning.{length_counted}
use Rattle.run_laws.proofs.Lengths.{length_map}
use Rattle.scaled_laws.proofs.Scaled.{nonneg_over}
use Rattle.lane_rows.specs.Laned.{numbers_of}
use Rattle.lanes.specs.Narrow.{AreLanes}

-- ---- the sign of one constant

pub below_zero : (z : ℤ) → z <ℤ pos 0 → is_nonneg z ≡ false
below_zero (pos k) h = absurd (omega (arith, ints, h))
below_zero (negsuc k) h = refl

and_true : (b : Bool) → (b && true) ≡ b
and_true true = refl
and_true false = refl

pub alone : (c : List ℤ) → length c ≡ 1 → list_all is_nonneg c ≡ is_nonneg (constant c)
alone (z ∷ []) e = and_true (is_nonneg z)
alone _ e = absurd (omega arith)

-- of the row of these lanes
pub lanes_sign : (n : ℕ) (l : ℤ) (x : List ℤ) (r : Row) → pos 1 ≤ℤ l → n < length x → divided (row_over n l (numbers_of n x)) ≡ r → length r.constant ≡ 1 → is_nonneg (entry x 0) ≡ is_not_below r
lanes_sign n l x r h long is one =
    sym (and_true (is_nonneg (entry x 0)))
    ∙ ap (list_all is_nonneg) (sym (constants_are n x long))
    ∙ nonneg_over n l (numbers_of n x) h
    ∙ ap (λ (s : Row). list_all is_nonneg s.constant) is
    ∙ alone r.constant one

-- of the row that a form makes
pub made_sign : (n : ℕ) (l : ℤ) (basis : List Row) (f : List ℤ) → pos 1 ≤ℤ l → is_nonneg (place 0 (combination n 0 l basis f)) ≡ is_not_below (by_form n 0 l basis f)
made_sign n l basis f h =
    let c = combination n 0 l basis f in
    let long : length (combination n 0 l basis f).coefs ≡ n = length_counted (λ k. _) n in
    let same : row_over n l ((combination n 0 l basis f).coefs ++ (combination n 0 l basis f).constant) ≡ combination n 0 l basis f =
    same_row refl (take_at (combination n 0 l basis f).coefs (combination n 0 l basis f).constant n long) (drop_at (combination n 0 l basis f).coefs (combination n 0 l basis f).constant n long) in
    sym (and_true (is_nonneg (place 0 (combination n 0 l basis f))))
    ∙ ap (λ (s : Row). list_all is_nonneg s.constant) (sym same)
    ∙ nonneg_over n l ((combination n 0 l basis f).coefs ++ (combination n 0 l basis f).constant) h
    ∙ ap (λ (s : Row). list_all is_nonneg (divided s).constant) same
    ∙ alone (by_form n 0 l basis f).constant (wide_by_form n 0 l basis f (omega (arith, ints, h))).constant

-- ---- the rows of a run

module _ (t : ScaledTable) where
  abbrev n : ℕ
  n = t.unknowns

  abbrev basis : List Row
  basis = take t.unknowns t.rows

  made_kept : (F : List (List ℤ)) (more : List Row) → map (made n 0 t.scale basis) (kept_of F more) ≡ map (by_form n 0 t.scale basis) F ++ more
  made_kept [] [] = refl
  made_kept [] (r ∷ more) = ap (λ (xs : List Row). r ∷ xs) (made_kept [] more)
  made_kept (f ∷ F) more = ap (λ (xs : List Row). by_form n 0 t.scale basis f ∷ xs) (made_kept F more)

  pub in_parts : (F : List (List ℤ)) → run_rows t F ≡ basis ++ (map (by_form n 0 t.scale basis) F ++ drop n t.rows)
  in_parts F = ap (λ (xs : List Row). basis ++ xs) (made_kept F (drop n t.rows))

  made_join : (A B : List (List ℤ)) → made_rows t (A ++ B) ≡ made_rows t A ++ made_rows t B
  made_join A B = ap (map (by_form n 0 t.scale basis)) (map-append (numbers_of n) A B) ∙ map-append (by_form n 0 t.scale basis) (forms_of n A) (forms_of n B)

  -- with the forms in two parts
  pub in_four_parts : (A B : List (List ℤ)) → run_rows t (forms_of n (A ++ B)) ≡ basis ++ ((made_rows t A ++ made_rows t B) ++ drop n t.rows)
  in_four_parts A B = in_parts (forms_of n (A ++ B)) ∙ ap (λ (xs : List Row). basis ++ (xs ++ drop n t.rows)) (made_join A B)

  module _ (m : ℕ) (scaled : AreScaled n 0 t.scale m t.rows) (enough : n ≤ length t.rows) where
    pub one_constant : (j : ℕ) → j < length t.rows → length (row_at t.rows j).constant ≡ 1
    one_constant j lt = (scaled.each j (form_row 0 []) lt).wide.constant

    pub sign_at : (j : ℕ) → j < length t.rows → list_all is_nonneg (row_at t.rows j).constant ≡ is_not_below (row_at t.rows j)
    sign_at j lt = alone (row_at t.rows j).constant (one_constant j lt)

    pub lanes_at : (j : ℕ) (x : List ℤ) → j < length t.rows → n < length x → divided (row_over n t.scale (numbers_of n x)) ≡ row_at t.rows j → is_nonneg (entry x 0) ≡ is_not_below (row_at t.rows j)
    lanes_at j x lt long is = lanes_sign n t.scale x (row_at t.rows j) scaled.positive long is (one_constant j lt)

    -- ---- the columns' rows

    pub columns_long : length basis ≡ n
    columns_long = length-take-le n t.rows enough

    pub column_at : (j : ℕ) → j < n → row_at basis j ≡ row_at t.rows j
    column_at j lt = get_or-take n t.rows j (form_row 0 []) lt

    column_sign : (j : ℕ) (b : Bool) → j < n → list_all is_nonneg (row_at t.rows j).constant ≡ b → is_not_below (row_at basis j) ≡ b
    column_sign j b lt e = ap is_not_below (column_at j lt) ∙ sym (sign_at j (omega (arith, lt, enough))) ∙ e

    pub columns_above : ((j : ℕ) → j < n → list_all is_nonneg (row_at t.rows j).constant ≡ true) → AreNotBelow basis
    columns_above all j lt = let s : j < n = omega (arith, lt, columns_long) in column_sign j true s (all j s)

    pub column_below : (k : ℕ) (row : List ℤ) → k < n → list_all is_nonneg (row_at t.rows k).constant ≡ false → ((j : ℕ) → j < k → list_all is_nonneg (row_at t.rows j).constant ≡ true)
        → AreLanes row → AreUnused n row → divided (row_over n t.scale (numbers_of n row)) ≡ row_at t.rows k → IsFirstRowBelow t basis row
    column_below k row lt below before lanes unused same = record {
      place = k;
      within = omega (arith, lt, columns_long);
      below = column_sign k false lt below;
      before = λ j less. let s : j < n = omega (arith, less, lt) in column_sign j true s (before j less);
      lanes = lanes;
      unused = unused;
      same = same ∙ sym (column_at k lt);
    }

    -- ---- the cuts

    cut_at : (j : ℕ) → row_at (drop n t.rows) j ≡ row_at t.rows (n + j)
    cut_at j = get_or-drop n t.rows j (form_row 0 [])

    cuts_above : (e : ℕ) → ((j : ℕ) → n ≤ j → j < e → is_not_below (row_at t.rows j) ≡ true) → (j : ℕ) → n + j < e → is_not_below (row_at (drop n t.rows) j) ≡ true
    cuts_above e all j lt = ap is_not_below (cut_at j) ∙ all (n + j) (omega arith) lt

    pub cut_is_below : (i : ℕ) (row : List ℤ) → n ≤ i → i < length t.rows → is_not_below (row_at t.rows i) ≡ false → ((j : ℕ) → n ≤ j → j < i → is_not_below (row_at t.rows j) ≡ true)
        → AreLanes row → AreUnused n row → divided (row_over n t.scale (numbers_of n row)) ≡ row_at t.rows i → IsFirstRowBelow t (drop n t.rows) row
    cut_is_below i row le lt below before lanes unused same =
        let here : row_at (drop n t.rows) (i - n) ≡ row_at t.rows i = cut_at (i - n) ∙ ap (row_at t.rows) (omega (arith, le)) in
        record {
          place = i - n;
          within = omega (arith, le, lt, length-drop n t.rows);
          below = ap is_not_below here ∙ below;
          before = λ j less. cuts_above i before j (omega (arith, less, le));
          lanes = lanes;
          unused = unused;
          same = same ∙ sym here;
        }

    -- ---- the rows that forms make

    module _ (A : List (List ℤ)) where
      made_at : (j : ℕ) → j < length A → row_at (made_rows t A) j ≡ by_form n 0 t.scale basis (numbers_of n (get_or A j []))
      made_at j lt = from A j lt
        where
          from : (A : List (List ℤ)) (j : ℕ) → j < length A → row_at (made_rows t A) j ≡ by_form n 0 t.scale basis (numbers_of n (get_or A j []))
          from [] j lt = absurd (omega arith)
          from (f ∷ A) zero lt = refl
          from (f ∷ A) (suc j) lt = from A j (omega arith)

      made_long : length (made_rows t A) ≡ length A
      made_long = length_map (by_form n 0 t.scale basis) (forms_of n A) ∙ length_map (numbers_of n) A

      made_at_sign : (j : ℕ) (b : Bool) → j < length A → is_nonneg (value_of t (get_or A j [])) ≡ b → is_not_below (row_at (made_rows t A) j) ≡ b
      made_at_sign j b lt e = ap is_not_below (made_at j lt) ∙ sym (made_sign n t.scale basis (numbers_of n (get_or A j [])) scaled.positive) ∙ e

      pub made_above : ((j : ℕ) → j < length A → is_nonneg (value_of t (get_or A j [])) ≡ true) → AreNotBelow (made_rows t A)
      made_above all j lt = let s : j < length A = omega (arith, lt, made_long) in made_at_sign j true s (all j s)

      pub made_below : (k : ℕ) (row : List ℤ) → k < length A → is_nonneg (value_of t (get_or A k [])) ≡ false → ((j : ℕ) → j < k → is_nonneg (value_of t (get_or A j [])) ≡ true)
          → AreLanes row → AreUnused n row → row_over n t.scale (numbers_of n row) ≡ combination n 0 t.scale basis (numbers_of n (get_or A k [])) → IsFirstRowBelow t (made_rows t A) row
      made_below k row lt below before lanes unused same = record {
        place = k;
        within = omega (arith, lt, made_long);
        below = made_at_sign k false lt below;
        before = λ j less. made_at_sign j true (omega (arith, less, lt)) (before j less);
        lanes = lanes;
        unused = unused;
        same = ap divided same ∙ sym (made_at k lt);
      }

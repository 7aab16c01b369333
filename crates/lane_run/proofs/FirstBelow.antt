-- The first row below 0 among rows that stand in parts one behind the other.
use Rattle.lane_run.proofs.Words.{◌≡◌, ◌∙◌, refl, ap, sym, ℕ, zero, suc, ◌+◌, ◌-◌, ◌<◌, ◌≤◌, ℤ, arith, ◌⊎◌, inl, inr, Bool, true, false, Some, None, List, [], ◌∷◌, ◌++◌, length, length-append, if◌then◌else◌, cases_lt, get_or-append-add, Row, row_at, form_row, negative_from, ScaledTable, is_not_below, AreNotBelow, IsFirstRowBelow, row_at-front}

-- ---- as the run finds it

above_none : (rows : List Row) (i : ℕ) → AreNotBelow rows → negative_from i rows ≡ None
above_none [] i all = refl
above_none (r ∷ rows) i all = ap (λ (b : Bool). if b then negative_from (i + 1) rows else Some i) (all 0 (omega arith))
    ∙ above_none rows (i + 1) (λ j lt. all (suc j) (omega (arith, lt)))

below_some : (rows : List Row) (i k : ℕ) → k < length rows → is_not_below (row_at rows k) ≡ false → ((j : ℕ) → j < k → is_not_below (row_at rows j) ≡ true) → negative_from i rows ≡ Some (i + k)
below_some [] i k lt e before = absurd (omega arith)
below_some (r ∷ rows) i zero lt e before = let s : i ≡ i + 0 = omega arith in ap (λ (b : Bool). if b then negative_from (i + 1) rows else Some i) e ∙ ap (λ (j : ℕ). Some j) s
below_some (r ∷ rows) i (suc k) lt e before =
    ap (λ (b : Bool). if b then negative_from (i + 1) rows else Some i) (before 0 (omega arith))
    ∙ below_some rows (i + 1) k (omega arith) e (λ j less. before (suc j) (omega (arith, less))) ∙ ap (λ (j : ℕ). Some j) (omega arith)

pub none_negative : (rows : List Row) → AreNotBelow rows → negative_from 0 rows ≡ None
none_negative rows all = above_none rows 0 all

pub first_negative : (t : ScaledTable) (rows : List Row) (row : List ℤ) (h : IsFirstRowBelow t rows row) → negative_from 0 rows ≡ Some h.place
first_negative t rows row h = let s : 0 + h.place ≡ h.place = omega arith in below_some rows 0 h.place h.within h.below h.before ∙ ap (λ (j : ℕ). Some j) s

-- ---- parts

module _ (R S : List Row) where
  pub row_behind : (j : ℕ) → row_at (R ++ S) (length R + j) ≡ row_at S j
  row_behind j = get_or-append-add R S j (form_row 0 [])

  above_at : AreNotBelow R → (k : ℕ) → ((j : ℕ) → j < k → is_not_below (row_at S j) ≡ true) → (j : ℕ) → j < length R + k → is_not_below (row_at (R ++ S) j) ≡ true
  above_at front k back j lt = by (cases_lt j (length R))
    where
      by : (j < length R) ⊎ (length R ≤ j) → is_not_below (row_at (R ++ S) j) ≡ true
      by (inl less) = ap is_not_below (row_at-front R S j less) ∙ front j less
      by (inr le) =
          let s : length R + (j - length R) ≡ j = omega (arith, le) in
          sym (ap (λ (i : ℕ). is_not_below (row_at (R ++ S) i)) s) ∙ ap is_not_below (row_behind (j - length R)) ∙ back (j - length R) (omega (arith, lt, le))

  pub both_above : AreNotBelow R → AreNotBelow S → AreNotBelow (R ++ S)
  both_above front back j lt = above_at front (length S) back j (omega (arith, lt, length-append R S))

  pub first_front : (t : ScaledTable) (row : List ℤ) → IsFirstRowBelow t R row → IsFirstRowBelow t (R ++ S) row
  first_front t row h = record {
    place = h.place;
    within = omega (arith, h.within, length-append R S);
    below = ap is_not_below (row_at-front R S h.place h.within) ∙ h.below;
    before = λ j lt. ap is_not_below (row_at-front R S j (omega (arith, lt, h.within))) ∙ h.before j lt;
    lanes = h.lanes;
    unused = h.unused;
    same = h.same ∙ sym (row_at-front R S h.place h.within);
  }

  pub first_behind : (t : ScaledTable) (row : List ℤ) → AreNotBelow R → IsFirstRowBelow t S row → IsFirstRowBelow t (R ++ S) row
  first_behind t row front h = record {
    place = length R + h.place;
    within = omega (arith, h.within, length-append R S);
    below = ap is_not_below (row_behind h.place) ∙ h.below;
    before = above_at front h.place h.before;
    lanes = h.lanes;
    unused = h.unused;
    same = h.same ∙ sym (row_behind h.place);
  }

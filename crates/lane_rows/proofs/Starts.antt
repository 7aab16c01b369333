-- The rows of the columns, and no rows.
use Rattle.lane_rows.proofs.Words.{get_or, ◌≡◌, ◌∙◌, ap, sym, subst, ℕ, zero, suc, ◌+◌, ◌<◌, ◌≤◌, ◌^◌, ℤ, pos, unsigned_abs, arith, ◌⊎◌, inl, inr, List, [], length, map, replicate, append-nil, length-set, All, ints, cases_eq, length-replicate, slice_set, entry, Row, divided, count_from, unit_row, entry-zeros, entry-set_same, entry-set_other, row_over, column_rows, all_made, length_made, same_made, AreLanes, set_lanes, zeros_lanes, numbers_of, numbers_at, table_of, AreLaned, IsLaned}
use Rattle.scaled_laws.specs.Units.{row_size, unit_numbers}
use Rattle.scaled_laws.proofs.Begun.{unit_is}
use Rattle.lane_rows.proofs.Numbers.{same_numbers}

abbrev unit_at : ℕ → ℤ → List ℤ
unit_at k z = slice_set (replicate 8 (pos 0)) k z

pub unit_other : (k : ℕ) (z : ℤ) (j : ℕ) → (j ≡ k → ⊥) → entry (unit_at k z) j ≡ pos 0
unit_other k z j not = entry-set_other (replicate 8 (pos 0)) k z j not ∙ entry-zeros 8 j

pub unit_same : (k : ℕ) (z : ℤ) → k < 8 → entry (unit_at k z) k ≡ z
unit_same k z lt = entry-set_same (replicate 8 (pos 0)) k z lt

pub unit_within : (k : ℕ) (z : ℤ) (m : ℕ) → k < 8 → unsigned_abs z ≤ m → (j : ℕ) → unsigned_abs (entry (unit_at k z) j) ≤ m
unit_within k z m lt le j = by (cases_eq j k)
  where
    by : (j ≡ k) ⊎ (j ≡ k → ⊥) → unsigned_abs (entry (unit_at k z) j) ≤ m
    by (inl is) = subst (λ (y : ℤ). unsigned_abs y ≤ m) (sym (ap (entry (unit_at k z)) is ∙ unit_same k z lt)) le
    by (inr not) = subst (λ (y : ℤ). unsigned_abs y ≤ m) (sym (unit_other k z j not)) (omega arith)

-- the row of column c over z
pub unit_laned : (n c : ℕ) (z : ℤ) (m : ℕ) → c < n → n ≤ 7 → unsigned_abs z ≤ m → m < 2 ^ 31 → IsLaned n m (unit_at (c + 1) z)
unit_laned n c z m lt few le small = record {
  lanes = set_lanes (replicate 8 (pos 0)) (c + 1) z zeros_lanes (omega (arith, lt, few)) (omega (arith, le, small));
  unused = λ k more. unit_other (c + 1) z k (λ is. absurd (omega (arith, more, is, lt)));
  within = unit_within (c + 1) z m (omega (arith, lt, few)) le;
}

get_made : (g : ℕ → List ℤ) (i k j : ℕ) → j < k → get_or (map g (count_from i k)) j [] ≡ g (i + j)
get_made g i zero j h = absurd (omega arith)
get_made g i (suc k) zero h = let e : i ≡ i + 0 = omega arith in ap g e
get_made g i (suc k) (suc j) h = let e : (i + 1) + j ≡ i + suc j = omega arith in get_made g (i + 1) k j (omega arith) ∙ ap g e

module _ (n : ℕ) (rows : List (List ℤ)) (is : rows ≡ map (λ c. slice_set (replicate 8 (pos 0)) (c + 1) (pos 1)) (count_from 0 n)) (few : n ≤ 7) where
  row_there : (j : ℕ) → j < n → get_or rows j [] ≡ unit_at (j + 1) (pos 1)
  row_there j lt = let e : 0 + j ≡ j = omega arith in ap (λ (xs : List (List ℤ)). get_or xs j []) is ∙ get_made (λ c. unit_at (c + 1) (pos 1)) 0 n j lt ∙ ap (λ (c : ℕ). unit_at (c + 1) (pos 1)) e

  long : length rows ≡ n
  long = ap length is ∙ length_made (λ c. unit_at (c + 1) (pos 1)) 0 n

  pub units_laned : (at : List ℤ) → at ≡ slice_set (replicate 8 (pos 0)) 0 (pos 1) → AreLanes at → AreLaned n rows at (pos 1) 1
  units_laned at e h = record {
    few = few;
    enough = omega (arith, long);
    each = subst (All (IsLaned n 1)) (sym is) (all_made (λ c. unit_at (c + 1) (pos 1)) (IsLaned n 1) n (λ c lt. unit_laned n c (pos 1) 1 lt few (omega arith) (omega arith)));
    vertex = record {
      lanes = h;
      scale = ap (λ (zs : List ℤ). entry zs 0) e;
      constants = λ j lt. ap (λ (zs : List ℤ). entry zs (j + 1)) e ∙ unit_other 0 (pos 1) (j + 1) (λ same. absurd (omega (arith, same))) ∙ sym (ap (λ (zs : List ℤ). entry zs 0) (row_there j lt) ∙ unit_other (j + 1) (pos 1) 0 (λ same. absurd (omega (arith, same))));
      unused = λ k lt. ap (λ (zs : List ℤ). entry zs k) e ∙ unit_other 0 (pos 1) k (λ same. absurd (omega (arith, lt, same)));
    };
    positive = omega (arith, ints);
    common = omega arith;
    small = omega arith;
  }

  unit_there : (j : ℕ) → j < n → unit_numbers (row_size n 0) j ≡ numbers_at n rows j
  unit_there j lt = same_numbers n (unit_at (j + 1) (pos 1)) (unit_numbers (row_size n 0) j) (omega (arith, few, length-set (replicate 8 (pos 0)) (j + 1) (pos 1)))
      (length-set (replicate (row_size n 0) (pos 0)) j (pos 1) ∙ length-replicate (row_size n 0) (pos 0))
      (λ k less. by k less (cases_eq k j))
      (entry-set_other (replicate (row_size n 0) (pos 0)) j (pos 1) n (λ same. absurd (omega (arith, lt, same))) ∙ entry-zeros (row_size n 0) n ∙ sym (unit_other (j + 1) (pos 1) 0 (λ same. absurd (omega (arith, same)))))
      ∙ ap (numbers_of n) (sym (row_there j lt))
    where
      size : length (replicate (row_size n 0) (pos 0)) ≡ row_size n 0
      size = length-replicate (row_size n 0) (pos 0)

      other : (k j : ℕ) → (k ≡ j → ⊥) → k + 1 ≡ j + 1 → ⊥
      other k j not same = not (omega (arith, same))

      by : (k : ℕ) → k < n → (k ≡ j) ⊎ (k ≡ j → ⊥) → entry (unit_numbers (row_size n 0) j) k ≡ entry (unit_at (j + 1) (pos 1)) (k + 1)
      by k less (inl same) = ap (entry (unit_numbers (row_size n 0) j)) same ∙ entry-set_same (replicate (row_size n 0) (pos 0)) j (pos 1) (omega (arith, lt, size))
          ∙ sym (unit_same (j + 1) (pos 1) (omega (arith, lt, few))) ∙ ap (λ (x : ℕ). entry (unit_at (j + 1) (pos 1)) (x + 1)) (sym same)
      by k less (inr not) = entry-set_other (replicate (row_size n 0) (pos 0)) j (pos 1) k not ∙ entry-zeros (row_size n 0) k ∙ sym (unit_other (j + 1) (pos 1) (k + 1) (other k j not))

  pub begun_table : table_of n rows (pos 1) 1 ≡ column_rows n 0
  begun_table =
      ap (λ (k : ℕ). record { unknowns = n; width = 0; rows = map (λ j. divided (row_over n (pos 1) (numbers_at n rows j))) (count_from 0 k); scale = pos 1; most = 1 }) long
      ∙ ap (λ (rs : List Row). record { unknowns = n; width = 0; rows = rs; scale = pos 1; most = 1 })
      (same_made (λ j. divided (row_over n (pos 1) (numbers_at n rows j))) (unit_row n 0) n
      (λ j lt. ap (λ (zs : List ℤ). divided (row_over n (pos 1) zs)) (sym (unit_there j lt)) ∙ unit_is n 0 j lt)
      ∙ sym (append-nil (map (unit_row n 0) (count_from 0 n))))

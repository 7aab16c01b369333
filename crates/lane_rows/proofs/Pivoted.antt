-- The rows that a pivot makes.
use Rattle.lane_rows.proofs.Words.{slice_set, replicate, refl, entry-zeros, get_or, ◌≡◌, ◌∙◌, ap, sym, subst, ℕ, ◌+◌, ◌*◌, ◌<◌, ◌≤◌, ◌^◌, ℤ, pos, ◌≤ℤ◌, ◌-ℤ◌, ◌*ℤ◌, unsigned_abs, arith, List, [], ◌++◌, length, map, take, drop, ints, unsigned_abs-mul, mul-le, take_at, get_or_default, entry, combine, scale, divided, eliminated, entry-combine, entry-scale, entry-set_other, row_over, same_made, map_made, AreLanes, numbers_of, numbers_at, rows_in, AreUnused, AreLaned, IsLaned, IsVertex, AreTurned, CanTurn, turned}
use Rattle.lane_rows.proofs.Numbers.{row_turned}

no_factor : (l z : ℤ) → pos 1 ≤ℤ l → l *ℤ z ≡ pos 0 → z ≡ pos 0
no_factor l z h e =
    let more : 1 * unsigned_abs z ≤ unsigned_abs l * unsigned_abs z = mul-le 1 (unsigned_abs z) (unsigned_abs l) (unsigned_abs z) (positive l h) (omega arith) in
    nothing z (omega (arith, (sym (unsigned_abs-mul l z) ∙ ap unsigned_abs e), more))
  where
    positive : (l : ℤ) → pos 1 ≤ℤ l → 1 ≤ unsigned_abs l
    positive l h = omega (arith, ints, h)

    nothing : (z : ℤ) → unsigned_abs z ≡ 0 → z ≡ pos 0
    nothing z e = omega (arith, ints, e)

-- a lane that no column uses stays 0
turned_unused : (n : ℕ) (l : ℤ) (p x y : List ℤ) (c : ℕ) → pos 1 ≤ℤ l → c < n → length x ≡ length p → AreUnused n p → AreUnused n x → scale l y ≡ turned l p (c + 1) x → AreUnused n y
turned_unused n l p x y c h lt long p_unused x_unused made = λ k more. no_factor l (entry y k) h
    (sym (entry-scale l y k) ∙ ap (λ (zs : List ℤ). entry zs k) made
    ∙ entry-set_other (combine (entry p (c + 1)) x (entry x (c + 1)) p) (c + 1) (entry x (c + 1) *ℤ l) k (λ is. absurd (omega (arith, more, is, lt)))
    ∙ entry-combine (entry p (c + 1)) x (entry x (c + 1)) p k long
    ∙ ap (λ (z : ℤ). entry p (c + 1) *ℤ z -ℤ entry x (c + 1) *ℤ entry p k) (x_unused k more)
    ∙ ap (λ (z : ℤ). entry p (c + 1) *ℤ pos 0 -ℤ entry x (c + 1) *ℤ z) (p_unused k more)
    ∙ none (entry p (c + 1)) (entry x (c + 1)))
  where
    none : (a b : ℤ) → a *ℤ pos 0 -ℤ b *ℤ pos 0 ≡ pos 0
    none a b = omega (arith, ints)

module _ (n : ℕ) (rows new : List (List ℤ)) (at now : List ℤ) (l : ℤ) (m g : ℕ) (p : List ℤ) (c : ℕ) (h : AreLaned n rows at l m) (pivot : AreLanes p) (unused : AreUnused n p) (lt : c < n) (above : pos 1 ≤ℤ entry p (c + 1))
    (turns : AreTurned l p (c + 1) rows new g) where
  old_at : (j : ℕ) → j < length rows → IsLaned n m (get_or rows j [])
  old_at j less = h.each j [] less

  new_lanes : (j : ℕ) → j < length rows → AreLanes (get_or new j [])
  new_lanes j less = turns.lanes j [] (omega (arith, less, turns.long))

  pub rows_pivoted : rows_in n (entry p (c + 1)) (length new) new ≡ map (eliminated (divided (row_over n l (numbers_of n p))) c) (rows_in n l (length rows) rows)
  rows_pivoted =
      ap (λ (k : ℕ). rows_in n (entry p (c + 1)) k new) turns.long
      ∙ same_made _ _ (length rows) (λ j less.
      let old = old_at j less in
      let made = new_lanes j less in
      row_turned n l p (get_or rows j []) (get_or new j []) c h.positive (omega (arith, old.lanes.long, h.few)) (old.lanes.long ∙ sym pivot.long) (made.long ∙ sym old.lanes.long) lt above (turns.rows j less))
      ∙ sym (map_made (eliminated (divided (row_over n l (numbers_of n p))) c) (λ j. divided (row_over n l (numbers_at n rows j))) (length rows))

  laned_new : (j : ℕ) → j < length rows → IsLaned n g (get_or new j [])
  laned_new j less =
      let old = old_at j less in
      record {
        lanes = new_lanes j less;
        unused = turned_unused n l p (get_or rows j []) (get_or new j []) c h.positive lt (old.lanes.long ∙ sym pivot.long) unused old.unused (turns.rows j less);
        within = turns.within j [] (omega (arith, less, turns.long));
      }

  pub pivoted : unsigned_abs (entry p (c + 1)) ≤ g → g < 2 ^ 31 → IsVertex n new (entry p (c + 1)) now → AreLaned n new now (entry p (c + 1)) g
  pivoted size small vertex = record {
    few = h.few;
    enough = omega (arith, h.enough, turns.long);
    each = λ j d less. subst (IsLaned n g) (sym (get_or_default new j d [] less)) (laned_new j (omega (arith, less, turns.long)));
    vertex = vertex;
    positive = above;
    common = size;
    small = small;
  }

-- what a pivot asks
pub can_turn : (n : ℕ) (rows : List (List ℤ)) (at : List ℤ) (l : ℤ) (m g : ℕ) (p : List ℤ) → AreLaned n rows at l m → AreLanes p → ((k : ℕ) → unsigned_abs (entry p k) ≤ g) → m * g < 2 ^ 30 → CanTurn p rows
can_turn n rows at l m g p h lanes sizes lt = record {
  most = m;
  size = g;
  pivot = lanes;
  lanes = λ j d less. (h.each j d less).lanes;
  within = λ j d less. (h.each j d less).within;
  pivot_within = sizes;
  bound = lt;
}

-- a list that is written through a slice of all of it
pub put_back : (n : ℕ) (made items : List (List ℤ)) → length made ≡ length items → n ≡ length items → take n (made ++ drop (length made) items) ≡ made
put_back n made items long is = take_at made (drop (length made) items) n (long ∙ sym is)

-- no rows over no columns
pub none_laned : (rows : List (List ℤ)) (at : List ℤ) → rows ≡ [] → at ≡ slice_set (replicate 8 (pos 0)) 0 (pos 1) → AreLanes at → AreLaned 0 rows at (pos 1) 1
none_laned rows at e f lanes = record {
  few = omega arith;
  enough = omega arith;
  each = rw e (λ k d lt. absurd (omega (arith, lt)));
  vertex = record { lanes = lanes; scale = rw f refl; constants = λ j lt. absurd (omega (arith, lt)); unused = λ k lt. ap (λ (zs : List ℤ). entry zs k) f ∙ entry-set_other (replicate 8 (pos 0)) 0 (pos 1) k (λ is. absurd (omega (arith, lt, is))) ∙ entry-zeros 8 k };
  positive = omega (arith, ints);
  common = omega (arith, ints);
  small = omega arith;
}

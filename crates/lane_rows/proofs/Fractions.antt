-- The first constant that the denominator does not divide.
use Rattle.lane_rows.proofs.Words.{get_or, ◌≡◌, ◌∙◌, refl, ap, sym, ℕ, zero, suc, ◌+◌, ◌<◌, ℤ, pos, arith, Bool, true, false, Some, None, List, [], ◌∷◌, length, take, ◌&&◌, if◌then◌else◌, IfSome, IfNone, list_all, ints, get_or-take, length-take-le, divides, is_zero, entry, Row, row_at, form_row, is_whole, fraction_from, first_fraction, mod_multiple, whole_over, ScaledTable, numbers_at, table_of, AreLaned, IsLaned, IsFirstLeft, Option}
use Rattle.lane_rows.proofs.Numbers.{constants_are}
use Rattle.lane_rows.proofs.Views.{count_is, columns_are, row_here}

pub one_divides : (l z : ℤ) → l ≡ pos 1 → divides l z ≡ true
one_divides l z e = ap (λ (d : ℤ). divides d z) e ∙ ap is_zero (mod_multiple 1 z (omega arith) (record { times = z; is = omega (arith, ints) }))

fraction_found : (rs : List Row) (k i : ℕ) → i < length rs → ((j : ℕ) → j < i → is_whole (row_at rs j).den (row_at rs j).constant ≡ true) → is_whole (row_at rs i).den (row_at rs i).constant ≡ false → fraction_from k rs ≡ Some (k + i)
fraction_found [] k i lt before e = absurd (omega arith)
fraction_found (r ∷ rs) k zero lt before e = let s : k ≡ k + 0 = omega arith in ap (λ (b : Bool). if b then fraction_from (k + 1) rs else Some k) e ∙ ap (λ (j : ℕ). Some j) s
fraction_found (r ∷ rs) k (suc i) lt before e =
    ap (λ (b : Bool). if b then fraction_from (k + 1) rs else Some k) (before 0 (omega arith))
    ∙ fraction_found rs (k + 1) i (omega arith) (λ j less. before (suc j) (omega (arith, less))) e ∙ ap (λ (j : ℕ). Some j) (omega arith)

fraction_none : (rs : List Row) (k : ℕ) → ((j : ℕ) → j < length rs → is_whole (row_at rs j).den (row_at rs j).constant ≡ true) → fraction_from k rs ≡ None
fraction_none [] k all = refl
fraction_none (r ∷ rs) k all = ap (λ (b : Bool). if b then fraction_from (k + 1) rs else Some k) (all 0 (omega arith)) ∙ fraction_none rs (k + 1) (λ j lt. all (suc j) (omega (arith, lt)))

module _ (n : ℕ) (rows : List (List ℤ)) (l : ℤ) (m : ℕ) (t : ScaledTable) (is : table_of n rows l m ≡ t) (at : List ℤ) (h : AreLaned n rows at l m) where
  whole_at : (j : ℕ) → j < n → is_whole (row_at t.rows j).den (row_at t.rows j).constant ≡ (divides l (entry at (j + 1)) && true)
  whole_at j lt =
      let inside : j < length rows = omega (arith, lt, h.enough) in
      let count = count_is n rows l m t is in
      let row : IsLaned n m (get_or rows j []) = h.each j [] inside in
      sym (ap (λ (r : Row). is_whole r.den r.constant) (row_here n rows l m t is j (get_or rows j []) (omega (arith, inside, count)) refl))
      ∙ sym (whole_over n l (numbers_at n rows j) h.positive)
      ∙ ap (list_all (divides l)) (constants_are n (get_or rows j []) (omega (arith, row.lanes.long, h.few)))
      ∙ ap (λ (z : ℤ). divides l z && true) (sym (h.vertex.constants j lt))

  front_row : (j : ℕ) → j < n → row_at (take n t.rows) j ≡ row_at t.rows j
  front_row j lt = get_or-take n t.rows j (form_row 0 []) lt

  front_whole : (j : ℕ) (b : Bool) → j < n → divides l (entry at (j + 1)) ≡ b → is_whole (row_at (take n t.rows) j).den (row_at (take n t.rows) j).constant ≡ (b && true)
  front_whole j b lt e = ap (λ (r : Row). is_whole r.den r.constant) (front_row j lt) ∙ whole_at j lt ∙ ap (λ (c : Bool). c && true) e

  long : length (take n t.rows) ≡ n
  long = length-take-le n t.rows (let e = count_is n rows l m t is in omega (arith, e, h.enough))

  pub fraction_is : (i : ℕ) → IsFirstLeft n l at i → Some i ≡ first_fraction t.unknowns t.rows
  fraction_is i first =
      let s : 0 + i ≡ i = omega arith in
      sym (fraction_found (take n t.rows) 0 i (omega (arith, first.inside, long)) (λ j lt. front_whole j true (omega (arith, lt, first.inside)) (first.before j lt)) (front_whole i false first.inside first.left) ∙ ap (λ (j : ℕ). Some j) s)
      ∙ ap (λ (k : ℕ). first_fraction k t.rows) (columns_are n rows l m t is)

  pub no_fraction : ((j : ℕ) → j < n → divides l (entry at (j + 1)) ≡ true) → None ≡ first_fraction t.unknowns t.rows
  no_fraction all =
      sym (fraction_none (take n t.rows) 0 (λ j lt. front_whole j true (omega (arith, lt, long)) (all j (omega (arith, lt, long)))))
      ∙ ap (λ (k : ℕ). first_fraction k t.rows) (columns_are n rows l m t is)

  pub fraction_all : (o : Option ℕ) → IfSome o (IsFirstLeft n l at) → IfNone o ((j : ℕ) → j < n → divides l (entry at (j + 1)) ≡ true) → o ≡ first_fraction t.unknowns t.rows
  fraction_all (Some i) some none = fraction_is i some
  fraction_all None some none = no_fraction none

-- Forms over no places: the first that is below 0 refutes them at once.
use Rattle.refutation_steps.proofs.Words.{◌≡◌, refl, ap, sym, ◌∙◌, ℕ, zero, suc, ◌+◌, ◌<◌, ◌≤◌, ℤ, pos, Option, Some, List, [], ◌∷◌, length, arith, get_or, slice_index_or, drop, drop_more, map, length-map, Bool, true, false, if◌then◌else◌, ◌<ℤ◌, ◌≤ℤ◌, ◌==◌, negsuc, ints, is_nonneg, AllByRecursion, IsNarrow, entry, widen_to, constant, Bottom, Row, row_at, form_row, Work, Done, Trace, last_step, refute, first_trace, indices, refute-closed, node_of, form_rows, negative_from, candidates}
use Rattle.std.proofs.lemmas.Bool.{eqb-true}
use Rattle.refutation_steps.proofs.Positives.{index_at}
use Rattle.refutation_steps.proofs.Tracing.{refute_by_run}
use Rattle.point_turns.proofs.NextTraces.{next-bottom}
use Rattle.short_run.proofs.Ending.{no_column, closes}

pub no_places : (ps : List ℤ) (b : Bool) → b ≡ (length ps == 0) → b ≡ true → ps ≡ []
no_places [] b e f = refl
no_places (p ∷ ps) b e f = absurd (let none : length (p ∷ ps) ≡ 0 = eqb-true (length (p ∷ ps)) 0 (sym e ∙ f) in omega (arith, none))

-- the row of a form over no places
pub constant_read : (c : List ℤ) → 1 ≤ length c → length c ≤ 1 → constant (form_row 0 (widen_to 0 c)).constant ≡ entry c 0
constant_read [] some few = absurd (omega (arith, some))
constant_read (z ∷ []) some few = refl
constant_read (z ∷ y ∷ c) some few = absurd (omega (arith, few))

pub row_here : (K : List (List ℤ)) (i : ℕ) → i < length K → row_at (form_rows 0 K) i ≡ form_row 0 (widen_to 0 (get_or K i []))
row_here [] i h = absurd (omega (arith, h))
row_here (c ∷ K) zero h = refl
row_here (c ∷ K) (suc i) h = row_here K i (omega (arith, h))

-- the sign of the form at a place, and the first from there on that is below 0
module _ (K : List (List ℤ)) (i : ℕ) (c : List ℤ) (h : i < length K) (is : c ≡ slice_index_or K i c) (all : AllByRecursion (IsNarrow 0) K) where
  read : (M : List (List ℤ)) (k : ℕ) → k < length M → c ≡ slice_index_or M k c → AllByRecursion (IsNarrow 0) M → constant (row_at (form_rows 0 M) k).constant ≡ entry c 0
  read [] k h is all = absurd (omega (arith, h))
  read (m ∷ M) zero h is all = constant_read m all.0.some all.0.most ∙ ap (λ (f : List ℤ). entry f 0) (sym is)
  read (m ∷ M) (suc k) h is all = read M k (omega (arith, h)) is all.1

  abbrev rest : List Row
  rest = drop (i + 1) (form_rows 0 K)

  abbrev from : Bool → Option ℕ
  from b = if b then negative_from (i + 1) rest else Some i

  here : negative_from i (drop i (form_rows 0 K)) ≡ from (is_nonneg (entry c 0))
  here =
      ap (negative_from i) (drop_more (form_rows 0 K) i (form_row 0 []) (omega (arith, h, length-map (map (widen_to 0) K) (form_row 0), length-map K (widen_to 0))))
      ∙ ap (λ (z : ℤ). from (is_nonneg z)) (read K i h is all)

  below_zero : (z : ℤ) → z <ℤ pos 0 → is_nonneg z ≡ false
  below_zero (pos n) e = absurd (omega (arith, ints))
  below_zero (negsuc n) e = refl

  from_zero : (z : ℤ) → pos 0 ≤ℤ z → is_nonneg z ≡ true
  from_zero (pos n) e = refl
  from_zero (negsuc n) e = absurd (omega (arith, ints))

  pub ends_here : entry c 0 <ℤ pos 0 → negative_from i (drop i (form_rows 0 K)) ≡ Some i
  ends_here e = here ∙ ap from (below_zero (entry c 0) e)

  pub goes_on : pos 0 ≤ℤ entry c 0 → negative_from (i + 1) (drop (i + 1) (form_rows 0 K)) ≡ negative_from i (drop i (form_rows 0 K))
  goes_on e = sym (here ∙ ap from (from_zero (entry c 0) e))

module _ (K : List (List ℤ)) (r : ℕ) (below : negative_from 0 (form_rows 0 K) ≡ Some r) (within : r < length K) where
  abbrev rows : List Row
  rows = form_rows 0 K

  free : candidates (row_at rows r) ≡ []
  free = ap candidates (row_here K r within)

  step : last_step (row_at rows r) (entry (indices 0 (length K)) r) [] ≡ record { divisor = pos 1; terms = (pos r, pos 1) ∷ [] }
  step = ap (λ (R : Row). last_step R (entry (indices 0 (length K)) r) []) (row_here K r within)
      ∙ ap (λ (i : ℤ). record { divisor = pos 1; terms = (i, pos 1) ∷ [] }) (index_at 0 (length K) r within ∙ ap pos (let e : 0 + r ≡ r = omega arith in e))

  pub refuted_at_once : (first : ℤ) (v : Work) → refute 0 K [] first v ≡ Done (Some (record { divisor = pos 1; terms = (pos r, pos 1) ∷ [] } ∷ [])) v
  refuted_at_once first v =
      refute_by_run 0 K [] first v (λ _ e. absurd (omega (arith, within, ap length e)))
      ∙ refute-closed 0 (first_trace [] (length K) first) (node_of rows) Bottom v v (closes 0 rows r below free v)
      ∙ ap (λ (X : Trace). Done (Some X.steps) v) (next-bottom 0 rows (first_trace [] (length K) first) r below (no_column 0 rows r below free))
      ∙ ap (λ s. Done (Some (s ∷ [])) v) step

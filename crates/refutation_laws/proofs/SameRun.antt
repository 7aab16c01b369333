-- A refutation is made exactly where the context has no point, with the point's refusals and counters.
use Rattle.refutation_laws.proofs.Words.{◌≡◌, refl, ◌∙◌, ℕ, zero, suc, ◌+◌, arith, Option, List, [], ◌∷◌, length, ℤ, every-append, map, negate, residue, widen_to, Tree, Bottom, Leaf, Row, row_at, unit_row, form_row, count_from, start, constant_cut, Work, Outcome, Done, Refused, Counted, go_on, ◌>>=◌, give, Node, Turn, Closed, Again, Signs, AllPlus, scan, turn_by, point_setting, left, run, root, numbers_of, point_run, point, Trace, traced, refute_run, first_trace, refute_by, refute, Progress, turned, falls-constant_class, OnDone, FormsWide, wide_form_at, forms_more, forms_pivot, Refutation}
use Rattle.std.proofs.lemmas.List.{length-drop}
use Rattle.pip_model.specs.RefutedPoint.{IsRefutedPoint}
use Rattle.run_laws.proofs.CutsAt.{length_residue}
use Rattle.run_laws.proofs.Lengths.{length_floors, length_negate}
use Rattle.run_laws.proofs.Scopes.{Narrow, length-widen_to}
use Rattle.refutation_laws.proofs.Traces.{Traces, Kept, turn_kept}
use Rattle.refutation_laws.proofs.Signs.{IsSigns, scan_signs}

pub length_cut : (R : Row) → length R.constant ≡ 1 → length (constant_cut R).constant ≡ 1
length_cut R e = length_floors _ (negate (residue R.den R.constant)) ∙ length_negate (residue R.den R.constant) ∙ length_residue R.den R.constant ∙ e

-- without parameters, whatever the trace has
abbrev Flat : ℕ → List Row → Trace → Type 0
Flat fuel rows T = FormsWide 1 rows

abbrev Any : Refutation → Type 0
Any ss = Unit {0}

flat_rules : Traces Flat Any
flat_rules = record {
  flat = λ fuel rows T h. h;
  pivots = λ fuel rows T h r c inside e fit. forms_pivot 0 rows r c inside h;
  cuts = λ fuel rows T h i inside. forms_more 1 rows (constant_cut (row_at rows i)) h (length_cut (row_at rows i) (wide_form_at 1 rows i inside h));
  ends = λ fuel rows T h r inside below e. tt;
}

module _ (w : ℕ) where
  abbrev numbers : Tree → Counted (Option (List ℤ))
  numbers t = give (numbers_of t)

  at_turn : (fuel : ℕ) (T : Trace) (o : Outcome Turn) → ((next : Turn) (v : Work) → Kept Flat Any flat_rules fuel T next → Progress fuel (Done next v) → IsRefutedPoint (go_on (run (point_setting w) fuel next v) numbers) (refute_run w fuel T next v))
      → OnDone (Kept Flat Any flat_rules fuel T) o → Progress fuel o → IsRefutedPoint (go_on (go_on o (run (point_setting w) fuel)) numbers) (go_on o (refute_run w fuel T))
  at_turn fuel T (Done next v) same h p = same next v h p
  at_turn fuel T (Refused e v) same h p = (refl, refl)

  at_scan : (fuel : ℕ) (T : Trace) (N : Node) → FormsWide 1 N.rows → (o : Outcome Signs)
      → ((U : Trace) (next : Turn) (v : Work) → Kept Flat Any flat_rules fuel U next → Progress fuel (Done next v) → IsRefutedPoint (go_on (run (point_setting w) fuel next v) numbers) (refute_run w fuel U next v))
      → OnDone (IsSigns N.rows 0) o → Progress fuel (go_on o (turn_by (point_setting w) N))
      → IsRefutedPoint (go_on (go_on (go_on o (turn_by (point_setting w) N)) (run (point_setting w) fuel)) numbers) (go_on o (λ signs. turn_by (point_setting w) N signs >>= λ next. refute_run w fuel (traced w N.rows signs T) next))
  at_scan fuel T N flat (Done signs v) same h p = at_turn fuel (traced w N.rows signs T) (turn_by (point_setting w) N signs v) (same (traced w N.rows signs T)) ((turn_kept Flat Any flat_rules w fuel N T flat signs h).ensures v) p
  at_scan fuel T N flat (Refused e v) same h p = (refl, refl)

  same_turn : (fuel : ℕ) (T : Trace) (t : Turn) (v : Work) → Kept Flat Any flat_rules fuel T t → Progress fuel (Done t v) → IsRefutedPoint (go_on (run (point_setting w) fuel t v) numbers) (refute_run w fuel T t v)
  same_turn fuel T (Closed Bottom) v h p = refl
  same_turn fuel T (Closed (Leaf cs)) v h p = refl
  same_turn zero T (Again N) v h p = absurd (omega arith)
  same_turn (suc fuel) T (Again N) v h p = at_scan fuel T N h (scan (point_setting w) N 0 AllPlus N.rows v) (λ U next x flat q. same_turn fuel U next x flat q) ((scan_signs w N N.rows).ensures v)
      (turned (point_setting w) falls-constant_class N fuel v (omega arith))
  same_turn fuel T _ v h p = absurd h

  units_flat : (i n : ℕ) → FormsWide 1 (map (unit_row w 0) (count_from i n))
  units_flat i zero = tt
  units_flat i (suc n) = (refl, units_flat (i + 1) n)

  forms_flat : (K : List (List ℤ)) → Narrow w K → FormsWide 1 (map (form_row w) (map (widen_to w) K))
  forms_flat [] h = tt
  forms_flat (c ∷ K) h = (length-drop w (widen_to w c) ∙ omega (arith, length-widen_to w c h.0 h.1), forms_flat K h.2)

  -- the rows of a point's first node
  pub start_flat : (K : List (List ℤ)) → Narrow w K → FormsWide 1 (start w 0 (map (widen_to w) K))
  start_flat K h = every-append (λ (r : Row). length r.constant ≡ 1) (map (unit_row w 0) (count_from 0 w)) (map (form_row w) (map (widen_to w) K)) (units_flat 0 w) (forms_flat K h)

  same_from : (K : List (List ℤ)) (places : List ℤ) (first : ℤ) (v : Work) → Narrow w K → IsRefutedPoint (point_run w K v) (refute_by w K places first v)
  same_from K places first v h =
      let N = root w 0 (map (widen_to w) K) [] in
      same_turn (suc (left v)) (first_trace places (length K) first) (Again N) v (start_flat K h) (omega arith)

-- none exactly where the context has a point
pub refute-same : (w : ℕ) (K : List (List ℤ)) (places : List ℤ) (first : ℤ) (v : Work) → Narrow w K → IsRefutedPoint (point w K v) (refute w K places first v)
refute-same zero [] places first v h = refl
refute-same zero (c ∷ K) places first v h = same_from zero (c ∷ K) places first v h
refute-same (suc w) K places first v h = same_from (suc w) K places first v h

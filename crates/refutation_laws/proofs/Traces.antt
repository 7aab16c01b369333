-- What a pivot, a cut and a bottom keep of the trace holds along the run without parameters.
use Rattle.refutation_laws.proofs.Words.{if_cases, ◌≡◌, refl, subst, ℕ, zero, suc, ◌<◌, arith, Option, Some, None, List, [], ◌∷◌, ◌++◌, take, length, true, if◌then◌else◌, is_nonneg, entry, constant, coefficients, Bottom, Leaf, Row, row_at, pivot, pivot_listed, entering, entering_listed, is_whole, first_fraction, constant_cut, residue_of, find_from, Refutation, Counted, ◌>>=◌, ◌>>◌, give, listed, count_pivot, count_cut, Node, Turn, Closed, Again, Signs, AllPlus, MinusAt, UnknownBy, scan, pivot_turn, last_turn, quotient_cut, leaf, turn_by, point_setting, Trace, last_step, pivot_trace, cut_trace, traced, refute_run, Ensures, ensures-bind, ensures-then, ensures-give, after_listed, FormsWide, wide_form_at}
use Rattle.pip_model.specs.Listed.{all_fit}
use Rattle.pip_model.proofs.Forms.{no_coefficients}
use Rattle.run_laws.proofs.Fractions.{fraction_some, below_take}
use Rattle.refutation_laws.proofs.Signs.{IsSigns, scan_signs}

-- Q of the steps, if there are any
abbrev pub IfSteps : (Refutation → Type 0) → Option Refutation → Type 0
IfSteps Q None = Unit {0}
IfSteps Q (Some ss) = Q ss

-- H holds of the rows and the trace at each turn that has this fuel left, and Q of the steps at a bottom.
pub record Traces (H : ℕ → List Row → Trace → Type 0) (Q : Refutation → Type 0) : Type 0 where
  pub flat : (fuel : ℕ) (rows : List Row) (T : Trace) → H fuel rows T → FormsWide 1 rows
  pub pivots : (fuel : ℕ) (rows : List Row) (T : Trace) → H (suc fuel) rows T → (r c : ℕ) → r < length rows → entering rows r ≡ Some c → all_fit (pivot_listed rows r c) ≡ true → H fuel (pivot rows r c) (pivot_trace T rows r (Some c))
  pub cuts : (fuel : ℕ) (rows : List Row) (T : Trace) → H (suc fuel) rows T → (i : ℕ) → i < length rows → H fuel (rows ++ constant_cut (row_at rows i) ∷ []) (cut_trace T rows (Some i))
  pub ends : (fuel : ℕ) (rows : List Row) (T : Trace) → H (suc fuel) rows T → (r : ℕ) → r < length rows → ¬ (is_nonneg (constant (row_at rows r).constant) ≡ true) → entering rows r ≡ None → Q (T.steps ++ last_step (row_at rows r) (entry T.rows r) T.columns ∷ [])

module _ (H : ℕ → List Row → Trace → Type 0) (Q : Refutation → Type 0) (rules : Traces H Q) where
  -- what a turn makes
  abbrev pub Kept : ℕ → Trace → Turn → Type 0
  Kept fuel T (Closed Bottom) = Q T.steps
  Kept fuel T (Closed (Leaf cs)) = Unit {0}
  Kept fuel T (Again N) = H fuel N.rows T
  Kept fuel T _ = ⊥

  module _ (w fuel : ℕ) (N : Node) (T : Trace) (h : H (suc fuel) N.rows T) where
    pivot_kept : (r : ℕ) → r < length N.rows → ¬ (is_nonneg (constant (row_at N.rows r).constant) ≡ true) → (o : Option ℕ) → entering N.rows r ≡ o → Ensures (Kept fuel (pivot_trace T N.rows r o)) (pivot_turn (point_setting w) N r o)
    pivot_kept r inside below None e = ensures-give (Kept fuel (pivot_trace T N.rows r None)) (Closed Bottom) (rules.ends fuel N.rows T h r inside below e)
    pivot_kept r inside below (Some c) e =
        let next = Again (record N { rows = pivot N.rows r c }) in
        let K = Kept fuel (pivot_trace T N.rows r (Some c)) in
        ensures-then K count_pivot (listed (pivot_listed N.rows r c) >> give next)
        (after_listed K (pivot_listed N.rows r c) (give next) (λ fit. ensures-give K next (rules.pivots fuel N.rows T h r c inside e fit)))

    cut_kept : (o : Option ℕ) → first_fraction w N.rows ≡ o → Ensures (Kept fuel (cut_trace T N.rows o)) (last_turn (point_setting w) N o)
    cut_kept None e = ensures-give (Kept fuel (cut_trace T N.rows None)) (Closed (leaf (point_setting w) N)) tt
    cut_kept (Some i) e =
        let R = row_at N.rows i in
        let found = fraction_some 0 i (take w N.rows) e in
        let inside : i < length N.rows = omega (arith, found.1, below_take w found.0 N.rows found.2) in
        let next = Again (record N { rows = N.rows ++ constant_cut R ∷ [] }) in
        let K = Kept fuel (cut_trace T N.rows (Some i)) in
        let other = quotient_cut (point_setting w) N i R (find_from 0 N.quotients (residue_of R)) in
        ensures-then K count_cut (if is_whole R.den (coefficients R.constant) then give next else other)
        (if_cases (λ (part : Counted Turn). Ensures K part) (is_whole R.den (coefficients R.constant)) (give next) other (λ e. ensures-give K next (rules.cuts fuel N.rows T h i inside))
        (λ e. let yes = no_coefficients R.den R.constant (wide_form_at 1 N.rows i inside (rules.flat (suc fuel) N.rows T h)) in absurd cc))

    pub turn_kept : (signs : Signs) → IsSigns N.rows 0 signs → Ensures (Kept fuel (traced w N.rows signs T)) (turn_by (point_setting w) N signs)
    turn_kept AllPlus h = cut_kept (first_fraction w N.rows) refl
    turn_kept (MinusAt j) h =
        let is : h.0 ≡ j = omega (arith, h.1) in
        subst (λ (r : ℕ). Ensures (Kept fuel (traced w N.rows (MinusAt r) T)) (turn_by (point_setting w) N (MinusAt r))) is
        (ensures-then (Kept fuel (pivot_trace T N.rows h.0 (entering N.rows h.0))) (listed (entering_listed N.rows h.0)) (pivot_turn (point_setting w) N h.0 (entering N.rows h.0))
        (pivot_kept h.0 h.2 h.3 (entering N.rows h.0) refl))
    turn_kept (UnknownBy c) h = absurd h

  pub run_kept : (w fuel : ℕ) (T : Trace) (t : Turn) → Kept fuel T t → Ensures (IfSteps Q) (refute_run w fuel T t)
  run_kept w fuel T (Closed Bottom) h = ensures-give (IfSteps Q) (Some T.steps) h
  run_kept w (suc fuel) T (Again N) h =
      ensures-bind (IsSigns N.rows 0) (IfSteps Q) (scan (point_setting w) N 0 AllPlus N.rows) (λ signs. turn_by (point_setting w) N signs >>= λ next. refute_run w fuel (traced w N.rows signs T) next)
      (scan_signs w N N.rows)
      (λ signs is. ensures-bind (Kept fuel (traced w N.rows signs T)) (IfSteps Q) (turn_by (point_setting w) N signs) (λ next. refute_run w fuel (traced w N.rows signs T) next)
      (turn_kept w fuel N T h signs is) (λ next k. run_kept w fuel (traced w N.rows signs T) next k))
  run_kept w fuel T (Closed (Leaf cs)) h = ensures-give (IfSteps Q) None tt
  run_kept w zero T (Again N) h = ensures-give (IfSteps Q) None tt
  run_kept w fuel T _ h = absurd h

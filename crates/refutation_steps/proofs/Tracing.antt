-- The trace of the run without parameters, from one turn to the next, and what it gives.
use Rattle.refutation_steps.proofs.Words.{◌≡◌, refl, ap, sym, ◌∙◌, ℕ, zero, suc, ◌+◌, ◌<◌, ◌≤◌, ℤ, Option, Some, List, [], ◌∷◌, ◌++◌, length, length-append, arith, get_or_append_left, length-map, Ok, entry, widen_to, Bottom, Row, row_at, form_row, start, constant_cut, Refutation, Work, Outcome, Done, Refusal, Counted, Turn, Again, Closed, left, turn, point_setting, Trace, traced, with_step, last_step, refute_from, refute_by, refute, first_trace, indices, length-count, again_less, falls-constant_class, length_slice_set, next_trace, refute-again, refute-closed, TableauRows, IsCountedRun, HasCounted, counted_none, counted_on, node_of, HasSameScope, exchanged, with_cut, IsTraced, map, IsTurnAt, scope_none, scope_on}
use Rattle.point_turns.proofs.NextTraces.{next-bottom, next-pivot, next-cut}
use Rattle.short_run.specs.PointTurn.TheVariants as code

-- ---- the run, turn by turn

-- a run from these rows, this trace and these counts that goes on from others
pub record IsOneTrace (first now : TableauRows) (begun T : Trace) (before w : Work) : Type 0 where
  pub scope : HasSameScope first now
  pub rows : now.unknowns ≤ length now.rows
  pub traced : IsTraced now.unknowns now.rows T
  pub counted : HasCounted before w
  pub same : refute_from now.unknowns T (node_of now.rows) w ≡ refute_from first.unknowns begun (node_of first.rows) before

pub starts_trace : (first : TableauRows) (T : Trace) (w : Work) → first.unknowns ≤ length first.rows → IsTraced first.unknowns first.rows T → IsOneTrace first first T T w w
starts_trace first T w h traced = record { scope = scope_none first; rows = h; traced = traced; counted = counted_none w; same = refl }

module _ (first rows now : TableauRows) (begun T : Trace) (before w v : Work) (is : IsOneTrace first rows begun T before w) (counted : HasCounted w v) where
  abbrev pub one_turn : Outcome Turn
  one_turn = turn (point_setting rows.unknowns) (node_of rows.rows) w

  abbrev n : ℕ
  n = rows.unknowns

  abbrev pub whole : Counted (Option Refutation)
  whole = refute_from first.unknowns begun (node_of first.rows)

  goes-on : (U : Trace) → HasSameScope rows now → next_trace n (node_of rows.rows) T ≡ U → length U.rows ≡ length now.rows → length U.columns ≡ length T.columns
      → one_turn ≡ Done (Again (node_of now.rows)) v → IsOneTrace first now begun U before v
  goes-on U scope next number columns e = record {
    scope = scope_on first rows now is.scope scope;
    rows = omega (arith, scope.unknowns, scope.rows is.rows);
    traced = record { rows_traced = number; columns_traced = columns ∙ is.traced.columns_traced ∙ sym scope.unknowns };
    counted = counted_on before w v is.counted counted;
    same = ap (λ k. refute_from k U (node_of now.rows) v) scope.unknowns ∙ ap (λ (X : Trace). refute_from n X (node_of now.rows) v) (sym next)
        ∙ sym (refute-again n T (node_of rows.rows) (node_of now.rows) w v e) ∙ is.same;
  }

  pub goes-on-pivot : (r c : ℕ) → HasSameScope rows now → IsTurnAt n rows.rows now.rows (code.Pivot r c) → one_turn ≡ Done (Again (node_of now.rows)) v → IsOneTrace first now begun (exchanged T r c) before v
  goes-on-pivot r c scope at e =
      goes-on (exchanged T r c) scope (next-pivot n rows.rows T r c at.0 at.2) (is.traced.rows_traced ∙ sym at.4) (length_slice_set T.columns c (entry T.rows r)) e

  pub goes-on-cut : (i : ℕ) → HasSameScope rows now → IsTurnAt n rows.rows now.rows (code.Cut i) → one_turn ≡ Done (Again (node_of now.rows)) v
      → IsOneTrace first now begun (with_cut T (row_at now.rows i)) before v
  goes-on-cut i scope at e =
      let X = constant_cut (row_at rows.rows i) in
      let here : row_at now.rows i ≡ row_at rows.rows i = ap (λ (R : List Row). row_at R i) at.3 ∙ get_or_append_left rows.rows (X ∷ []) (form_row 0 []) i at.2 in
      goes-on (with_cut T (row_at now.rows i)) scope (next-cut n rows.rows T i at.0 at.1 ∙ ap (with_cut T) (sym here))
      (length-append T.rows (T.next ∷ []) ∙ ap (λ k. k + 1) is.traced.rows_traced ∙ sym (ap length at.3 ∙ length-append rows.rows (X ∷ []))) refl e

  pub goes-less : one_turn ≡ Done (Again (node_of now.rows)) v → left v < left w
  goes-less e = again_less (point_setting n) falls-constant_class (node_of rows.rows) (node_of now.rows) w v e

  pub ends-bottom : {E : Type 0} (fault : E → Option Refusal) (r : ℕ) → IsTurnAt n rows.rows now.rows (code.Bottom r) → one_turn ≡ Done (Closed Bottom) v
      → IsCountedRun (λ o. o) fault (Ok (Some (with_step T (last_step (row_at now.rows r) (entry T.rows r) T.columns)).steps)) before v whole
  ends-bottom fault r at e = record {
    agrees = sym is.same ∙ refute-closed n T (node_of rows.rows) Bottom w v e
        ∙ ap (λ (X : Trace). Done (Some X.steps) v) (next-bottom n rows.rows T r at.0 at.2 ∙ ap (λ (R : List Row). with_step T (last_step (row_at R r) (entry T.rows r) T.columns)) (sym at.3));
    counted = counted_on before w v is.counted counted;
  }

-- ---- from the first rows

pub refute_by_run : (n : ℕ) (forms : List (List ℤ)) (places : List ℤ) (first : ℤ) (w : Work) → (n ≡ 0 → forms ≡ [] → ⊥) → refute n forms places first w ≡ refute_by n forms places first w
refute_by_run zero [] places first w some = absurd (some refl refl)
refute_by_run zero (c ∷ forms) places first w some = refl
refute_by_run (suc n) [] places first w some = refl
refute_by_run (suc n) (c ∷ forms) places first w some = refl

module _ (forms : List (List ℤ)) (places : List ℤ) (first : ℤ) where
  abbrev first_table : TableauRows
  first_table = record { unknowns = length places; width = 0; rows = start (length places) 0 (map (widen_to (length places)) forms) }

  length-first : length (places ++ indices 0 (length forms)) ≡ length (start (length places) 0 (map (widen_to (length places)) forms))
  length-first = simp (length-append, length-map, length-count 0 (length places), length-count 0 (length forms)) refl

  module _ (t : TableauRows) (T : Trace) (rows : t ≡ first_table) (trace : T ≡ first_trace places (length forms) first) where
    pub first-traced : IsTraced t.unknowns t.rows T
    first-traced = rw (rows, trace) (record { rows_traced = length-first; columns_traced = refl })

    pub first-run : (w : Work) → refute_from t.unknowns T (node_of t.rows) w ≡ refute_by (length places) forms places first w
    first-run w = ap (λ (s : TableauRows). refute_from s.unknowns T (node_of s.rows) w) rows ∙ ap (λ (U : Trace). refute_from (length places) U (node_of first_table.rows) w) trace

-- The run without parameters, from one turn to the next, and what it answers.
use Rattle.point_turns.proofs.Words.{plain_setting, Result, true, false, is_some, go_on, give, numbers_of, finds_point, ◌≡◌, refl, ap, sym, ◌∙◌, ℕ, zero, suc, ◌<◌, ◌≤◌, ℤ, Bool, Option, Some, None, List, [], ◌∷◌, length, arith, length-append, IfSome, Ok, Err, length-map, Tree, Row, start, Work, Outcome, Done, Refused, Refusal, Counted, Turn, Again, Closed, left, turn, run_from, point, point_run, length-count, again_less, again_run, closed_run_from, refused_run_from, falls-constant_class, TableauRows, IsCountedRun, HasCounted, counted_none, counted_on, node_of, HasSameScope, ended}
use Rattle.point_turns.proofs.Leaving.{scope_none, scope_on, passes_refusal}

-- ---- the run from its first rows

pub point_by_run : (n : ℕ) (forms : List (List ℤ)) (w : Work) → (n ≡ 0 → forms ≡ [] → ⊥) → point n forms w ≡ point_run n forms w
point_by_run zero [] w some = absurd (some refl refl)
point_by_run zero (c ∷ forms) w some = refl
point_by_run (suc n) [] w some = refl
point_by_run (suc n) (c ∷ forms) w some = refl

pub length_start : (n w : ℕ) (forms : List (List ℤ)) → n ≤ length (start n w forms)
length_start n w forms = simp (length-append, length-map, length-count 0 n) (omega arith)

-- ---- turn by turn, in either mode: in integer mode (true) it is the run of a point

-- a run from these rows and counts that goes on from others
pub record IsOneRun (b : Bool) (first now : TableauRows) (before w : Work) : Type 0 where
  pub scope : HasSameScope first now
  pub rows : now.unknowns ≤ length now.rows
  pub counted : HasCounted before w
  pub same : run_from (plain_setting now.unknowns b) (node_of now.rows) w ≡ run_from (plain_setting first.unknowns b) (node_of first.rows) before

pub starts_run : (b : Bool) (first : TableauRows) (before : Work) → first.unknowns ≤ length first.rows → IsOneRun b first first before before
starts_run b first before h = record { scope = scope_none first; rows = h; counted = counted_none before; same = refl }

module _ (b : Bool) (first rows : TableauRows) (before w v : Work) (is : IsOneRun b first rows before w) (counted : HasCounted w v) where
  abbrev pub one_turn : Outcome Turn
  one_turn = turn (plain_setting rows.unknowns b) (node_of rows.rows) w

  abbrev pub whole : Counted Tree
  whole = run_from (plain_setting first.unknowns b) (node_of first.rows)

  pub run_goes_on : (next : TableauRows) → HasSameScope rows next → one_turn ≡ Done (Again (node_of next.rows)) v → IsOneRun b first next before v
  run_goes_on next scope e = record {
    scope = scope_on first rows next is.scope scope;
    rows = omega (arith, scope.unknowns, scope.rows is.rows);
    counted = counted_on before w v is.counted counted;
    same = ap (λ k. run_from (plain_setting k b) (node_of next.rows) v) scope.unknowns
        ∙ sym (again_run (plain_setting rows.unknowns b) falls-constant_class (node_of rows.rows) (node_of next.rows) w v e) ∙ is.same;
  }

  pub run_less : (next : List Row) → one_turn ≡ Done (Again (node_of next)) v → left v < left w
  run_less next e = again_less (plain_setting rows.unknowns b) falls-constant_class (node_of rows.rows) (node_of next) w v e

  pub run_closed : {E : Type 0} (fault : E → Option Refusal) (next : List Row) (found : Bool) → one_turn ≡ Done (Closed (ended rows.unknowns next found)) v
      → IsCountedRun (ended first.unknowns next) fault (Ok found) before v whole
  run_closed fault next found e = record {
    agrees = sym is.same ∙ closed_run_from (plain_setting rows.unknowns b) falls-constant_class (node_of rows.rows) w v (ended rows.unknowns next found) e
        ∙ ap (λ k. Done (ended k next found) v) is.scope.unknowns;
    counted = counted_on before w v is.counted counted;
  }

  refused : (o : Option Refusal) → IfSome o (λ f. one_turn ≡ Refused f v) → IfSome o (λ f. whole before ≡ Refused f v)
  refused None e = e
  refused (Some f) e = sym is.same ∙ refused_run_from (plain_setting rows.unknowns b) falls-constant_class (node_of rows.rows) w v f e

  pub run_refused : {E : Type 0} (fault : E → Option Refusal) (next : List Row) (f : E) → IfSome (fault f) (λ e. one_turn ≡ Refused e v)
      → IsCountedRun (ended first.unknowns next) fault (Err f) before v whole
  run_refused fault next f e = record { agrees = refused (fault f) e; counted = counted_on before w v is.counted counted }

-- whether a run finds a point, by how it ends
module _ {E : Type 0} (fault : E → Option Refusal) (n : ℕ) (rows now : List Row) (before w : Work) where
  pub finds : (r : Result Bool E) → IsCountedRun (ended n now) fault r before w (run_from (plain_setting n true) (node_of rows)) → IsCountedRun (λ b. b) fault r before w (finds_point n rows)
  finds (Ok true) told = record { agrees = ap (λ o. go_on o (λ t. give (is_some (numbers_of t)))) told.agrees; counted = told.counted }
  finds (Ok false) told = record { agrees = ap (λ o. go_on o (λ t. give (is_some (numbers_of t)))) told.agrees; counted = told.counted }
  finds (Err e) told = record {
    agrees = passes_refusal (run_from (plain_setting n true) (node_of rows) before) (λ t. give (is_some (numbers_of t))) (finds_point n rows before) refl (fault e) w told.agrees;
    counted = told.counted;
  }

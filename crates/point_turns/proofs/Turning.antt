-- The turns of the run without parameters.
use Rattle.plain_laws.proofs.Plain.{first_minus, plain_turn_is}
use Rattle.point_turns.proofs.Words.{plain_setting, ◌∙◌, ◌≡◌, refl, ap, ℕ, ◌+◌, ℤ, Bool, true, false, Option, Some, None, List, [], ◌∷◌, ◌++◌, length, if◌then◌else◌, IfSome, is_nonneg, constant, coefficients, Row, row_at, first_fraction, is_whole, constant_cut, Work, Outcome, Done, Refused, Refusal, Node, Setting, Signs, AllPlus, MinusAt, go_on, turn, turn_by, last_turn, cut_turn, count_cut, give, Again, point_setting, negative_from, node_of, counted_cut, subst, sym, Result, TableauRows, IsCountedRun}
use Rattle.point_turns.specs.Turns.{made}
use Rattle.point_turns.specs.declared.turns.PointTurn.{PointTurn}
use Rattle.point_turns.proofs.Leaving.{passes_refusal, run_same}

abbrev pub signs_of : Option ℕ → Signs
signs_of None = AllPlus
signs_of (Some r) = MinusAt r

signs_are : (i : ℕ) (rows : List Row) → first_minus i rows ≡ signs_of (negative_from i rows)
signs_are i [] = refl
signs_are i (r ∷ rs) = by (is_nonneg (constant r.constant)) (signs_are (i + 1) rs)
  where
    by : (t : Bool) → first_minus (i + 1) rs ≡ signs_of (negative_from (i + 1) rs) → (if t then first_minus (i + 1) rs else MinusAt i) ≡ signs_of (if t then negative_from (i + 1) rs else Some i)
    by true e = e
    by false e = refl

-- a turn in either mode, by the first row below 0
pub turn_in : (n : ℕ) (b : Bool) (rows : List Row) (w : Work) → turn (plain_setting n b) (node_of rows) w ≡ turn_by (plain_setting n b) (node_of rows) (signs_of (negative_from 0 rows)) w
turn_in n b rows w = plain_turn_is n b rows w ∙ ap (λ (s : Signs). turn_by (plain_setting n b) (node_of rows) s w) (signs_are 0 rows)

pub turn_is : (n : ℕ) (rows : List Row) (w : Work) → turn (point_setting n) (node_of rows) w ≡ turn_by (point_setting n) (node_of rows) (signs_of (negative_from 0 rows)) w
turn_is n rows w = turn_in n true rows w

-- so a turn by the rows' signs is the turn, where the first row below 0 was looked for before
pub turned : {E : Type 0} {fault : E → Option Refusal} {result : Result PointTurn E} {w v : Work} (b : Bool) (t m : TableauRows) (now : List Row) (s : Signs)
    → m ≡ t → signs_of (negative_from 0 t.rows) ≡ s
    → IsCountedRun (made m.unknowns now) fault result w v (turn_by (plain_setting m.unknowns b) (node_of m.rows) s)
    → IsCountedRun (made t.unknowns now) fault result w v (turn (plain_setting t.unknowns b) (node_of t.rows))
turned {fault = fault} {result = result} {w = w} {v = v} b t m now s kept signs told =
    run_same (subst (λ (x : TableauRows). IsCountedRun (made x.unknowns now) fault result w v (turn_by (plain_setting x.unknowns b) (node_of x.rows) s)) kept told)
    (sym (turn_in t.unknowns b t.rows w ∙ ap (λ (s : Signs). turn_by (plain_setting t.unknowns b) (node_of t.rows) s w) signs))

-- ---- a cut

no_coefficients : (c : List ℤ) → length c ≡ 1 → coefficients c ≡ []
no_coefficients c e = rw e refl

-- a cut that leaves no parameter in it: it is counted, and the node goes on with it
pub counted_again : (S : Setting) (N : Node) (i : ℕ) (w : Work) → is_whole (row_at N.rows i).den (coefficients (row_at N.rows i).constant) ≡ true
    → cut_turn S N i (row_at N.rows i) w ≡ go_on (counted_cut N.rows i w) (λ rows. give (Again (record N { rows = rows })))
counted_again S N i w whole = rw whole (by (count_cut w))
  where
    by : (o : Outcome (Unit {0})) → go_on o (λ done. give (Again (record N { rows = N.rows ++ constant_cut (row_at N.rows i) ∷ [] }))) ≡ go_on (go_on o (λ done. give (N.rows ++ constant_cut (row_at N.rows i) ∷ []))) (λ rows. give (Again (record N { rows = rows })))
    by (Done x u) = refl
    by (Refused f u) = refl

-- so a point's run cuts
pub cut_again : (n : ℕ) (rows : List Row) (i : ℕ) (w : Work) → first_fraction n rows ≡ Some i → length (row_at rows i).constant ≡ 1
    → last_turn (point_setting n) (node_of rows) (first_fraction n rows) w ≡ go_on (counted_cut rows i w) (λ now. give (Again (node_of now)))
cut_again n rows i w e one =
    let none = no_coefficients (row_at rows i).constant one in
    let whole : is_whole (row_at rows i).den (coefficients (row_at rows i).constant) ≡ true = rw none refl in
    rw e (counted_again (point_setting n) (node_of rows) i w whole)

pub cut_refused : (n : ℕ) (rows : List Row) (i : ℕ) (w u : Work) → first_fraction n rows ≡ Some i → length (row_at rows i).constant ≡ 1
    → (o : Option Refusal) → IfSome o (λ f. counted_cut rows i w ≡ Refused f u) → IfSome o (λ f. last_turn (point_setting n) (node_of rows) (first_fraction n rows) w ≡ Refused f u)
cut_refused n rows i w u e one o h = passes_refusal (counted_cut rows i w) (λ now. give (Again (node_of now))) _ (cut_again n rows i w e one) o u h

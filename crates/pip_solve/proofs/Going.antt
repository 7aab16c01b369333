-- What is in hand after a turn, and after a tree.
use Rattle.pip_solve.proofs.Words.{◌≡◌, sym, ap, ◌∙◌, ℕ, ◌+◌, ◌++◌, ◌∷◌, [], map, take, List, ℤ, length, arith, take-append_seam, append-nil, length-append, length-take-le, opposite, If, NewParm, row_at, widened, Quotient, lower_bound, upper_bound, parametric_cut, Work, ◌>>=◌, go_on, give, run_from, TableauRows, ContextMark, Scope, size, ScopedTree, Path, Frame, node_of, setting_of, IsBelow, IsBack, under, below, node_run, gone_back, path_under, finished, whole_run, turned_run, AreMarks, Waits}
use Rattle.pip_solve.specs.declared.pending.Frame.TheVariants as frame
use Rattle.node_turn.specs.declared.turn.Turn.TheVariants as code
use Rattle.pip_solve.proofs.Running.{grouped, same_after, node_same, Grown, finished_grown, grown_below}

-- ---- an if: the second tree is due back here

-- the path below, back at the marks of the path
module _ (path now : Path) (c : List ℤ) (entered : IsBelow path (c ∷ []) [] now) (mark : ContextMark) (quotients : ℕ) (forms : mark.forms ≡ length path.context.forms) (added : quotients ≡ length path.quotients.quotients) (depth : ℕ) where
  pub forms_back : take mark.forms now.context.forms ≡ path.context.forms
  forms_back = rw (forms, entered.forms) (take-append_seam path.context.forms (c ∷ []))

  pub quotients_back : (gone_back now mark quotients depth).quotients ≡ path.quotients
  quotients_back =
      ap (λ (q : Scope). let back : Scope = record q { quotients = take quotients q.quotients } in back) entered.quotients
      ∙ ap (λ (n : ℕ). let back : Scope = record path.quotients { quotients = take n (path.quotients.quotients ++ []) } in back) added
      ∙ ap (λ (qs : List Quotient). let back : Scope = record path.quotients { quotients = qs } in back) (take-append_seam path.quotients.quotients [])

  pub back_again : Grown path (gone_back now mark quotients depth)
  back_again = record {
    integer = entered.integer;
    forms = ([], forms_back ∙ sym (append-nil _));
    room =
        let more = ap (λ (fs : List (List ℤ)). length fs) entered.forms in
        let kept = ap (λ (fs : List (List ℤ)). length fs) forms_back in
        omega (arith, more, length-append path.context.forms (c ∷ []), kept, forms, entered.room);
    params = ap (λ (q : Scope). q.params) quotients_back;
    quotients = ([], ap (λ (q : Scope). q.quotients) quotients_back ∙ sym (append-nil _));
  }

-- the run goes on with the first tree
pub split_on : (most w : ℕ) (rows : TableauRows) (path now : Path) (frames : List Frame) (c : List ℤ) (mark : ContextMark) (quotients : ℕ)
    → Waits most w path frames → IsBelow path (c ∷ []) [] now → mark.forms ≡ length path.context.forms → quotients ≡ length path.quotients.quotients → path.depth ≡ length frames
    → (u : Work) → turned_run rows path frames (code.Split c) u ≡ whole_run rows now (frame.SecondDue c rows mark quotients ∷ frames) u
split_on most w rows path now frames c mark quotients waits entered forms added deep u =
    let S = setting_of rows path in
    let N = node_of rows path in
    let back = gone_back now mark quotients (length frames) in
    let second = run_from S (under N (opposite c)) in
    grouped (run_from S (under N c) u) (λ a. second >>= λ b. give (If c a b)) (λ t. finished path frames t)
    ∙ ap (λ o. go_on o (λ a. (second >>= λ b. give (If c a b)) >>= λ t. finished path frames t)) (sym (node_same rows (path_under path c) now entered.integer entered.depth entered.forms (entered.quotients ∙ same) u))
    ∙ same_after (node_run rows now u) _ (λ a. finished now (frame.SecondDue c rows mark quotients ∷ frames) a) (λ a v.
    grouped (second v) (λ b. give (If c a b)) (λ t. finished path frames t)
    ∙ ap (λ o. go_on o (λ b. finished path frames (If c a b))) (sym (node_same rows (path_under path (opposite c)) (path_under back (opposite c)) entered.integer (omega (arith, deep)) (ap (λ (fs : List (List ℤ)). fs ++ opposite c ∷ []) (forms_back path now c entered mark quotients forms added (length frames))) (quotients_back path now c entered mark quotients forms added (length frames)) v))
    ∙ same_after (node_run rows (path_under back (opposite c)) v) (λ b. finished path frames (If c a b)) (λ b. finished back frames (If c a b)) (λ b x. sym (finished_grown most w path back frames (back_again path now c entered mark quotients forms added (length frames)) waits (If c a b) x)))
  where
    same : record path.quotients { quotients = path.quotients.quotients ++ [] } ≡ path.quotients
    same = ap (λ (qs : List Quotient). let q : Scope = record path.quotients { quotients = qs } in q) (append-nil path.quotients.quotients)

pub second_grown : (path mid now : Path) (frames : List Frame) (c : List ℤ) (mark : ContextMark) (quotients : ℕ) → AreMarks path mark quotients → IsBack path mark quotients mid → IsBelow mid (opposite c ∷ []) [] now
    → Grown (gone_back path mark quotients (length frames)) now
second_grown path mid now frames c mark quotients marks back entered = record {
  integer = entered.integer ∙ back.integer;
  forms = (opposite c ∷ [], entered.forms ∙ ap (λ (fs : List (List ℤ)). fs ++ opposite c ∷ []) back.forms);
  room = omega (arith, length-take-le mark.forms path.context.forms marks.forms, marks.forms, back.room, entered.room);
  params = ap (λ (q : Scope). q.params) entered.quotients ∙ ap (λ (q : Scope). q.params) back.quotients;
  quotients = ([], ap (λ (q : Scope). q.quotients) entered.quotients ∙ ap (λ (q : Scope). q.quotients ++ []) back.quotients);
}

-- the run goes on with the second tree, where the path went back and one level down
pub second_on : (most w : ℕ) (rows : TableauRows) (path mid now : Path) (frames : List Frame) (c : List ℤ) (mark : ContextMark) (quotients : ℕ)
    → Waits most w path (frame.SecondDue c rows mark quotients ∷ frames) → IsBack path mark quotients mid → IsBelow mid (opposite c ∷ []) [] now → path.depth ≡ length frames
    → (first : ScopedTree) (u : Work) → finished path (frame.SecondDue c rows mark quotients ∷ frames) first.tree u ≡ whole_run rows now (frame.FirstMade c first ∷ frames) u
second_on most w rows path mid now frames c mark quotients waits back entered deep first u =
    let before = gone_back path mark quotients (length frames) in
    ap (λ o. go_on o (λ b. finished before frames (If c first.tree b))) (sym (node_same rows (path_under before (opposite c)) now (entered.integer ∙ back.integer) (omega (arith, entered.depth, back.depth, deep)) (entered.forms ∙ ap (λ (fs : List (List ℤ)). fs ++ opposite c ∷ []) back.forms) (entered.quotients ∙ same ∙ back.quotients) u))
    ∙ same_after (node_run rows now u) (λ b. finished before frames (If c first.tree b)) (λ b. finished now frames (If c first.tree b)) (λ b v. sym (finished_grown most w before now frames grown waits.3 (If c first.tree b) v))
  where
    same : record mid.quotients { quotients = mid.quotients.quotients ++ [] } ≡ mid.quotients
    same = ap (λ (qs : List Quotient). let q : Scope = record mid.quotients { quotients = qs } in q) (append-nil mid.quotients.quotients)

    grown : Grown (gone_back path mark quotients (length frames)) now
    grown = second_grown path mid now frames c mark quotients waits.0 back entered

-- the node below a new parameter
below_there : (rows now_rows : TableauRows) (path now : Path) (i : ℕ) (k : Quotient) → rows.width ≡ size path.quotients
    → now_rows ≡ record { unknowns = rows.unknowns; width = rows.width + 1; rows = map widened rows.rows ++ parametric_cut (widened (row_at rows.rows i)) rows.width ∷ [] }
    → IsBelow path (lower_bound (size path.quotients + 1) (size path.quotients) k ∷ upper_bound (size path.quotients + 1) (size path.quotients) k ∷ []) (k ∷ []) now
    → (u : Work) → run_from (setting_of rows path) (below (node_of rows path) i (size path.quotients) k) u ≡ node_run now_rows now u
below_there rows now_rows path now i k wide cut entered u =
    sym (
    ap (λ (t : TableauRows). node_run t now u) cut
    ∙ ap (λ (n : ℕ). node_run (record { unknowns = rows.unknowns; width = n + 1; rows = map widened rows.rows ++ parametric_cut (widened (row_at rows.rows i)) n ∷ [] }) now u) wide
    ∙ node_same (record { unknowns = rows.unknowns; width = size path.quotients + 1; rows = map widened rows.rows ++ parametric_cut (widened (row_at rows.rows i)) (size path.quotients) ∷ [] }) there now entered.integer entered.depth entered.forms entered.quotients u
    )
  where
    there : Path
    there = record path {
      depth = path.depth + 1;
      context = record path.context { forms = path.context.forms ++ lower_bound (size path.quotients + 1) (size path.quotients) k ∷ upper_bound (size path.quotients + 1) (size path.quotients) k ∷ [] };
      quotients = record path.quotients { quotients = path.quotients.quotients ++ k ∷ [] };
    }

-- a new parameter: the run goes on below it
pub below_on : (most w : ℕ) (rows now_rows : TableauRows) (path now : Path) (frames : List Frame) (i : ℕ) (k : Quotient)
    → Waits most w path frames → rows.width ≡ size path.quotients
    → now_rows ≡ record { unknowns = rows.unknowns; width = rows.width + 1; rows = map widened rows.rows ++ parametric_cut (widened (row_at rows.rows i)) rows.width ∷ [] }
    → IsBelow path (lower_bound (size path.quotients + 1) (size path.quotients) k ∷ upper_bound (size path.quotients + 1) (size path.quotients) k ∷ []) (k ∷ []) now
    → (u : Work) → turned_run rows path frames (code.Below i k) u ≡ whole_run now_rows now (frame.NewParm k.form k.den ∷ frames) u
below_on most w rows now_rows path now frames i k waits wide cut entered u =
    let N = node_of rows path in
    let q = size path.quotients in
    grouped (run_from (setting_of rows path) (below N i q k) u) (λ a. give (NewParm k.form k.den a)) (λ t. finished path frames t)
    ∙ ap (λ o. go_on o (λ a. finished path frames (NewParm k.form k.den a))) there
    ∙ same_after (node_run now_rows now u) (λ a. finished path frames (NewParm k.form k.den a)) (λ a. finished now frames (NewParm k.form k.den a)) (λ a v. sym (finished_grown most w path now frames (grown_below path now _ _ entered) waits (NewParm k.form k.den a) v))
  where
    there : run_from (setting_of rows path) (below (node_of rows path) i (size path.quotients) k) u ≡ node_run now_rows now u
    there = below_there rows now_rows path now i k wide cut entered u

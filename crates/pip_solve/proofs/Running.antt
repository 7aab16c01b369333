-- How a run goes on from a node in hand to the next.
use Rattle.pip_solve.proofs.Words.{◌≡◌, refl, sym, ap, ◌∙◌, ℕ, ◌+◌, ◌-◌, ◌≤◌, ◌++◌, ◌∷◌, [], take, Bool, List, ℤ, length, arith, append-nil, length-append, take-append-le, length-take-le, opposite, Tree, If, NewParm, Work, Outcome, Done, Refused, Counted, ◌>>=◌, go_on, Turn, Closed, Again, Below, Split, turn, run_from, class, falls-class, closed_run_from, again_run, below_run, split_run, TableauRows, ContextMark, Scope, size, Path, Frame, node_of, setting_of, IsKept, IsBelow, after, node_run, gone_back, path_under, finished, AreMarks, IsDue, Waits}
use Rattle.pip_solve.specs.declared.pending.Frame.TheVariants as frame

-- ---- parts in a row

pub grouped : {A B C : Type 0} (o : Outcome A) (f : A → Counted B) (g : B → Counted C) → go_on (go_on o f) g ≡ go_on o (λ x. f x >>= g)
grouped (Done x w) f g = refl
grouped (Refused e w) f g = refl

pub same_after : {A B : Type 0} (o : Outcome A) (f g : A → Counted B) → ((x : A) (w : Work) → f x w ≡ g x w) → go_on o f ≡ go_on o g
same_after (Done x w) f g h = h x w
same_after (Refused e w) f g h = refl

-- the run of a node is its turn, and then what the run makes of that
pub by_turn : (t : TableauRows) (path : Path) (T : Turn) (w u : Work) → turn (setting_of t path) (node_of t path) w ≡ Done T u → node_run t path w ≡ after (setting_of t path) T u
by_turn t path (Closed tree) w u e = closed_run_from (setting_of t path) falls-class (node_of t path) w u tree e
by_turn t path (Again M) w u e = again_run (setting_of t path) falls-class (node_of t path) M w u e
by_turn t path (Below k M) w u e = below_run (setting_of t path) falls-class (node_of t path) M k w u e
by_turn t path (Split c L M) w u e = split_run (setting_of t path) falls-class (node_of t path) L M c w u e

-- a node's run depends on its path's mode, depth, forms and quotients alone
pub node_same : (t : TableauRows) (path now : Path) → now.integer ≡ path.integer → now.depth ≡ path.depth → now.context.forms ≡ path.context.forms → now.quotients ≡ path.quotients → (w : Work) → node_run t now w ≡ node_run t path w
node_same t path now integer depth forms quotients w =
    ap (λ (b : Bool). run_from (record { unknowns = t.unknowns; params = now.quotients.params; integer = b; class = class }) (node_of t now) w) integer
    ∙ ap (λ (n : ℕ). run_from (record { unknowns = t.unknowns; params = now.quotients.params; integer = path.integer; class = class }) (record { rows = t.rows; context = now.context.forms; quotients = now.quotients.quotients; depth = n }) w) depth
    ∙ ap (λ (fs : List (List ℤ)). run_from (record { unknowns = t.unknowns; params = now.quotients.params; integer = path.integer; class = class }) (record { rows = t.rows; context = fs; quotients = now.quotients.quotients; depth = path.depth }) w) forms
    ∙ ap (λ (q : Scope). run_from (record { unknowns = t.unknowns; params = q.params; integer = path.integer; class = class }) (record { rows = t.rows; context = path.context.forms; quotients = q.quotients; depth = path.depth }) w) quotients

-- ---- paths that went on from others

-- the path has the other's forms and quotients at its start, and no less room in all
pub record Grown (path now : Path) : Type 0 where
  pub integer : now.integer ≡ path.integer
  pub forms : (more : List (List ℤ)) × (now.context.forms ≡ path.context.forms ++ more)
  pub room : length path.context.forms + path.context.spare ≤ length now.context.forms + now.context.spare
  pub params : now.quotients.params ≡ path.quotients.params
  pub quotients : (more : List _) × (now.quotients.quotients ≡ path.quotients.quotients ++ more)

module _ (path now : Path) (grown : Grown path now) (mark : ContextMark) (quotients depth : ℕ) (marks : AreMarks path mark quotients) where
  pub forms_there : take mark.forms now.context.forms ≡ take mark.forms path.context.forms
  forms_there = rw (grown.forms.1) (take-append-le mark.forms path.context.forms grown.forms.0 marks.forms)

  pub quotients_there : take quotients now.quotients.quotients ≡ take quotients path.quotients.quotients
  quotients_there = rw (grown.quotients.1) (take-append-le quotients path.quotients.quotients grown.quotients.0 marks.quotients)

  longer : length path.context.forms ≤ length now.context.forms
  longer = let e = length-append path.context.forms grown.forms.0 in rw (grown.forms.1) (omega (arith, e))

  more_quotients : length path.quotients.quotients ≤ length now.quotients.quotients
  more_quotients = let e = length-append path.quotients.quotients grown.quotients.0 in rw (grown.quotients.1) (omega (arith, e))

  scope_there : (gone_back now mark quotients depth).quotients ≡ (gone_back path mark quotients depth).quotients
  scope_there =
      ap (λ (n : ℕ). let q : Scope = record { params = n; quotients = take quotients now.quotients.quotients } in q) grown.params
      ∙ ap (λ (qs : List _). let q : Scope = record { params = path.quotients.params; quotients = qs } in q) quotients_there

  pub grown_back : Grown (gone_back path mark quotients depth) (gone_back now mark quotients depth)
  grown_back =
      let still = length-take-le mark.forms now.context.forms (omega (arith, marks.forms, longer)) in
      record {
        integer = grown.integer;
        forms = ([], forms_there ∙ sym (append-nil _));
        room = omega (arith, length-take-le mark.forms path.context.forms marks.forms, still, longer, grown.room, marks.forms);
        params = grown.params;
        quotients = ([], quotients_there ∙ sym (append-nil _));
      }

  pub marks_there : AreMarks now mark quotients
  marks_there = record {
    forms = omega (arith, marks.forms, longer);
    narrow = rw forms_there (marks.narrow);
    quotients = omega (arith, marks.quotients, more_quotients);
  }

  pub due_there : (most : ℕ) (rows : TableauRows) (c : List ℤ) → IsDue most rows (gone_back path mark quotients depth) c → IsDue most rows (gone_back now mark quotients depth) c
  due_there most rows c due = record {
    node = record {
      some_unknowns = due.node.some_unknowns;
      few_unknowns = due.node.few_unknowns;
      rows = due.node.rows;
      scope = due.node.scope ∙ ap (λ (q : Scope). size q) (sym scope_there);
      context = due.node.context;
      few_params = rw (grown.params) (due.node.few_params);
      few_quotients = rw quotients_there (due.node.few_quotients);
      shallow = due.node.shallow;
    };
    condition = due.condition;
    nested = due.nested;
    room = omega (arith, due.room, longer, grown.room, marks.forms);
  }

  pub node_there : (rows : TableauRows) (c : List ℤ) (w : Work) → node_run rows (path_under (gone_back now mark quotients depth) c) w ≡ node_run rows (path_under (gone_back path mark quotients depth) c) w
  node_there rows c w = node_same rows (path_under (gone_back path mark quotients depth) c) (path_under (gone_back now mark quotients depth) c) grown.integer refl (ap (λ (fs : List (List ℤ)). fs ++ c ∷ []) forms_there) scope_there w

-- the frames that wait make the same of a tree
pub finished_grown : (most w : ℕ) (path now : Path) (frames : List Frame) → Grown path now → Waits most w path frames → (t : Tree) (u : Work) → finished now frames t u ≡ finished path frames t u
finished_grown most w path now [] grown waits t u = refl
finished_grown most w path now (frame.SecondDue c rows mark quotients ∷ frames) grown waits t u =
    let before = gone_back path mark quotients (length frames) in
    let here = gone_back now mark quotients (length frames) in
    ap (λ o. go_on o (λ b. finished here frames (If c t b))) (node_there path now grown mark quotients (length frames) waits.0 rows (opposite c) u)
    ∙ same_after (node_run rows (path_under before (opposite c)) u) (λ b. finished here frames (If c t b)) (λ b. finished before frames (If c t b)) (λ b v. finished_grown most w before here frames (grown_back path now grown mark quotients (length frames) waits.0) waits.3 (If c t b) v)
finished_grown most w path now (frame.FirstMade c first ∷ frames) grown waits t u = finished_grown most w path now frames grown waits.3 (If c first.tree t) u
finished_grown most w path now (frame.NewParm form den ∷ frames) grown waits t u = finished_grown most (w - 1) path now frames grown waits.4 (NewParm form den t) u

-- and wait for it as before
pub waits_grown : (most w : ℕ) (path now : Path) (frames : List Frame) → Grown path now → Waits most w path frames → Waits most w now frames
waits_grown most w path now [] grown waits = waits ∙ sym grown.params
waits_grown most w path now (frame.SecondDue c rows mark quotients ∷ frames) grown waits = (
  marks_there path now grown mark quotients (length frames) waits.0,
  waits.1,
  due_there path now grown mark quotients (length frames) waits.0 most rows c waits.2,
  waits_grown most w (gone_back path mark quotients (length frames)) (gone_back now mark quotients (length frames)) frames (grown_back path now grown mark quotients (length frames) waits.0) waits.3,
)
waits_grown most w path now (frame.FirstMade c first ∷ frames) grown waits = (waits.0, waits.1, waits.2, waits_grown most w path now frames grown waits.3)
waits_grown most w path now (frame.NewParm form den ∷ frames) grown waits = (waits.0, waits.1, waits.2, waits.3, waits_grown most (w - 1) path now frames grown waits.4)

pub grown_kept : (path now : Path) → IsKept path now → Grown path now
grown_kept path now kept = record {
  integer = kept.integer;
  forms = ([], kept.context.forms ∙ sym (append-nil _));
  room = let e = ap (λ (fs : List (List ℤ)). length fs) kept.context.forms in omega (arith, e, kept.context.spare);
  params = ap (λ (q : Scope). q.params) kept.quotients;
  quotients = ([], ap (λ (q : Scope). q.quotients) kept.quotients ∙ sym (append-nil _));
}

pub grown_below : (path now : Path) (forms : List (List ℤ)) (quotients : List _) → IsBelow path forms quotients now → Grown path now
grown_below path now forms quotients below = record {
  integer = below.integer;
  forms = (forms, below.forms);
  room = below.room;
  params = ap (λ (q : Scope). q.params) below.quotients;
  quotients = (quotients, ap (λ (q : Scope). q.quotients) below.quotients);
}

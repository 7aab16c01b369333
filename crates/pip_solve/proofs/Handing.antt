-- What is in hand keeps what the run needs of it.
use Rattle.pip_solve.proofs.Words.{◌≡◌, refl, sym, ap, subst, ◌∙◌, ℕ, ◌+◌, ◌-◌, ◌*◌, ◌<◌, ◌≤◌, ◌++◌, ◌∷◌, [], Bool, Option, Some, None, List, ℤ, length, arith, IfSome, length-append, length-take-le, opposite, most_nesting, Tree, If, nesting, Quotient, Work, Budget, Setting, Node, Done, Refused, Refusal, ◌>>=◌, give, go_on, turn, run_from, class, left, AtMost, Progress, falls-class, falls-turn, refused_run_from, TableauRows, ContextMark, Scope, size, ScopedTree, Path, Frame, node_of, setting_of, IsNode, IsKept, IsBelow, IsBack, IsCondition, turn_of, after, IsNewParameter, TurnIs, Waiting, node_run, gone_back, path_under, finished, whole_run, turned_run, HasRoom, AreMarks, Waits, IsRunning, IsTurned, IsNextNode, weight, dues}
use Rattle.pip_model.specs.Contexts.{IsContext}
use Rattle.pip_model.proofs.Fuel as fuel
use Rattle.pip_solve.specs.declared.pending.Frame.TheVariants as frame
use Rattle.node_turn.specs.declared.turn.Turn as turns
use Rattle.node_turn.specs.declared.turn.Turn.TheVariants as code
use Rattle.pip_solve.proofs.Running.{same_after, by_turn, node_same, finished_grown, waits_grown, grown_kept, grown_below}
use Rattle.pip_solve.proofs.Going.{forms_back, quotients_back, back_again, second_grown}

-- ---- one level down

module _ (rows : TableauRows) (path now : Path) (pending : Waiting) (running : IsRunning rows path pending) (nested : path.depth + 1 ≤ pending.most) (room : HasRoom pending.most path) where
  -- the node of the first tree, and that of the second which is due
  pub split_running : (c : List ℤ) (mark : ContextMark) (quotients : ℕ) → IsCondition rows.width c → IsBelow path (c ∷ []) [] now → mark.forms ≡ length path.context.forms → mark.width ≡ path.context.width → IsContext path.context.width path.context.forms → quotients ≡ length path.quotients.quotients
      → IsRunning rows now (record pending { frames = frame.SecondDue c rows mark quotients ∷ pending.frames })
  split_running c mark quotients condition entered forms width narrow added =
      let long = length-append path.context.forms (c ∷ []) in
      let more = ap (λ (fs : List (List ℤ)). length fs) entered.forms in
      let still = ap (λ (q : Scope). length q.quotients) entered.quotients in
      let nothing = length-append path.quotients.quotients [] in
      let params = ap (λ (q : Scope). q.params) entered.quotients in
      let back = quotients_back path now c entered mark quotients forms added (length pending.frames) in
      let node = running.node in
      let first : IsNode rows now = record {
        some_unknowns = node.some_unknowns;
        few_unknowns = node.few_unknowns;
        rows = node.rows;
        scope = omega (arith, node.scope, still, nothing, params);
        context = omega (arith, node.context, entered.width);
        few_params = omega (arith, node.few_params, params);
        few_quotients = omega (arith, node.few_quotients, still, nothing, entered.depth);
        shallow = omega (arith, nested, running.few, entered.depth);
      } in
      record {
        node = first;
        depth = omega (arith, entered.depth, running.depth);
        nested = omega (arith, entered.depth, nested);
        few = running.few;
        waits = (
          record {
            forms = omega (arith, forms, long, more);
            narrow = rw (forms_back path now c entered mark quotients forms added (length pending.frames), width) narrow;
            quotients = omega (arith, added, still, nothing);
          },
          refl,
          record {
            node = record {
              some_unknowns = node.some_unknowns;
              few_unknowns = node.few_unknowns;
              rows = node.rows;
              scope = node.scope ∙ ap (λ (q : Scope). size q) (sym back);
              context = width ∙ node.context;
              few_params = omega (arith, node.few_params, params);
              few_quotients = let kept = ap (λ (q : Scope). length q.quotients) back in omega (arith, kept, node.few_quotients, running.depth);
              shallow = omega (arith, nested, running.few, running.depth);
            };
            condition = condition;
            nested = omega (arith, nested, running.depth);
            room = omega (arith, room, running.depth, entered.room, long, more, forms);
          },
          waits_grown pending.most rows.width path (gone_back now mark quotients (length pending.frames)) pending.frames (back_again path now c entered mark quotients forms added (length pending.frames)) running.waits,
        );
      }

  -- the node below a new parameter
  pub below_running : (now_rows : TableauRows) (a b : List ℤ) (k : Quotient) (i : ℕ) → IsNewParameter rows path.quotients i k → IsBelow path (a ∷ b ∷ []) (k ∷ []) now
      → now_rows.unknowns ≡ rows.unknowns → now_rows.width ≡ rows.width + 1 → rows.unknowns ≤ length now_rows.rows
      → IsRunning now_rows now (record pending { frames = frame.NewParm k.form k.den ∷ pending.frames })
  below_running now_rows a b k i new entered unknowns width some =
      let still = ap (λ (q : Scope). length q.quotients) entered.quotients in
      let added = length-append path.quotients.quotients (k ∷ []) in
      let params = ap (λ (q : Scope). q.params) entered.quotients in
      let node = running.node in
      let over : rows.width ≡ now_rows.width - 1 = omega (arith, width) in
      record {
        node = record {
          some_unknowns = omega (arith, node.some_unknowns, unknowns);
          few_unknowns = omega (arith, node.few_unknowns, unknowns);
          rows = omega (arith, unknowns, some);
          scope = omega (arith, node.scope, still, added, params, width);
          context = omega (arith, node.context, entered.width, width);
          few_params = omega (arith, node.few_params, params);
          few_quotients = omega (arith, node.few_quotients, still, added, entered.depth);
          shallow = omega (arith, nested, running.few, entered.depth);
        };
        depth = omega (arith, entered.depth, running.depth);
        nested = omega (arith, entered.depth, nested);
        few = running.few;
        waits = (
          omega (arith, new.wide, width),
          rw (new.residue) (new.row.positive),
          rw (new.residue) (new.row.den_fits),
          omega (arith, width),
          subst (λ n. Waits pending.most n now pending.frames) over (waits_grown pending.most rows.width path now pending.frames (grown_below path now _ _ entered) running.waits),
        );
      }

  pub split_room : (c : List ℤ) → IsBelow path (c ∷ []) [] now → HasRoom pending.most now
  split_room c entered =
      let more = ap (λ (fs : List (List ℤ)). length fs) entered.forms in
      omega (arith, room, nested, entered.depth, entered.room, length-append path.context.forms (c ∷ []), more)

  pub below_room : (a b : List ℤ) (k : Quotient) → IsBelow path (a ∷ b ∷ []) (k ∷ []) now → HasRoom pending.most now
  below_room a b k entered =
      let more = ap (λ (fs : List (List ℤ)). length fs) entered.forms in
      omega (arith, room, nested, entered.depth, entered.room, length-append path.context.forms (a ∷ b ∷ []), more)

  pub split_next : (c : List ℤ) (mark : ContextMark) (quotients : ℕ) → IsCondition rows.width c → IsBelow path (c ∷ []) [] now → mark.forms ≡ length path.context.forms → mark.width ≡ path.context.width → IsContext path.context.width path.context.forms → quotients ≡ length path.quotients.quotients
      → IsNextNode 2 path pending rows now (record pending { frames = frame.SecondDue c rows mark quotients ∷ pending.frames })
  split_next c mark quotients condition entered forms width narrow added = record {
    running = split_running c mark quotients condition entered forms width narrow added;
    most = refl;
    params = ap (λ (q : Scope). q.params) entered.quotients;
    nearer = omega arith;
  }

  pub below_next : (now_rows : TableauRows) (a b : List ℤ) (k : Quotient) (i : ℕ) → IsNewParameter rows path.quotients i k → IsBelow path (a ∷ b ∷ []) (k ∷ []) now
      → now_rows.unknowns ≡ rows.unknowns → now_rows.width ≡ rows.width + 1 → rows.unknowns ≤ length now_rows.rows
      → IsNextNode 2 path pending now_rows now (record pending { frames = frame.NewParm k.form k.den ∷ pending.frames })
  below_next now_rows a b k i new entered unknowns width some = record {
    running = below_running now_rows a b k i new entered unknowns width some;
    most = refl;
    params = ap (λ (q : Scope). q.params) entered.quotients;
    nearer = omega arith;
  }

-- ---- a turn

-- a turn keeps what the run needs
pub turned_running : (rows now : TableauRows) (path later : Path) (pending : Waiting) (T : turns.Turn) → IsRunning rows path pending → TurnIs rows now path pending.most T → IsKept path later → IsTurned now later pending T
turned_running rows now path later pending T running turned kept = by T turned
  where
    waits : Waits pending.most rows.width later pending.frames
    waits = waits_grown pending.most rows.width path later pending.frames (grown_kept path later kept) running.waits

    again : now.unknowns ≡ rows.unknowns → now.width ≡ rows.width → rows.unknowns ≤ length now.rows → IsRunning now later pending
    again unknowns width some =
        let node = running.node in
        let params = ap (λ (q : Scope). q.params) kept.quotients in
        let still = ap (λ (q : Scope). length q.quotients) kept.quotients in
        record {
          node = record {
            some_unknowns = omega (arith, node.some_unknowns, unknowns);
            few_unknowns = omega (arith, node.few_unknowns, unknowns);
            rows = omega (arith, unknowns, some);
            scope = omega (arith, node.scope, still, params, width);
            context = omega (arith, node.context, kept.context.width, width);
            few_params = omega (arith, node.few_params, params);
            few_quotients = omega (arith, node.few_quotients, still, kept.depth);
            shallow = omega (arith, node.shallow, kept.depth);
          };
          depth = kept.depth ∙ running.depth;
          nested = omega (arith, kept.depth, running.nested);
          few = running.few;
          waits = subst (λ n. Waits pending.most n later pending.frames) (sym width) waits;
        }

    stays : now ≡ rows → IsRunning now later pending
    stays e = again (ap (λ (t : TableauRows). t.unknowns) e) (ap (λ (t : TableauRows). t.width) e) (subst (λ (t : TableauRows). rows.unknowns ≤ length t.rows) (sym e) running.node.rows)

    by : (T : turns.Turn) → TurnIs rows now path pending.most T → IsTurned now later pending T
    by (code.Closed tree) h = record {
      depth = kept.depth ∙ running.depth;
      nested = omega (arith, h.1, running.depth, running.nested);
      few = running.few;
      waits = subst (λ n. Waits pending.most n later pending.frames) (sym h.0) waits;
    }
    by code.Again h = again h.0 h.1 h.2
    by (code.Split c) h = (stays h.0, omega (arith, h.1, kept.depth), subst (λ (t : TableauRows). IsCondition t.width c) (sym h.0) h.2)
    by (code.Below i k) h = (
      stays h.0,
      omega (arith, h.1, kept.depth),
      subst (λ (q : Scope). IsNewParameter now q i k) (sym kept.quotients) (subst (λ (t : TableauRows). IsNewParameter t path.quotients i k) (sym h.0) h.2),
    )

-- the run of what a turn leaves does not see what the turn kept
after_same : (rows now : TableauRows) (path later : Path) (most : ℕ) (T : turns.Turn) (u : Work) → TurnIs rows now path most T → IsKept path later → after (setting_of rows path) (turn_of now path T) u ≡ after (setting_of now later) (turn_of now later T) u
after_same rows now path later most (code.Closed tree) u h kept = refl
after_same rows now path later most code.Again u h kept =
    ap (λ (n : ℕ). run_from (record { unknowns = n; params = path.quotients.params; integer = path.integer; class = class }) (node_of now path) u) (sym h.0)
    ∙ sym (node_same now path later kept.integer kept.depth kept.context.forms kept.quotients u)
after_same rows now path later most (code.Split c) u h kept =
    ap (λ (t : TableauRows). after (setting_of t path) (turn_of now path (code.Split c)) u) (sym h.0)
    ∙ ap (λ o. go_on o (λ a. node_run now (path_under path (opposite c)) >>= λ b. give (If c a b))) (sym (node_same now (path_under path c) (path_under later c) kept.integer (ap (λ n. n + 1) kept.depth) (ap (λ (fs : List (List ℤ)). fs ++ c ∷ []) kept.context.forms) kept.quotients u))
    ∙ same_after (node_run now (path_under later c) u) (λ a. node_run now (path_under path (opposite c)) >>= λ b. give (If c a b)) (λ a. node_run now (path_under later (opposite c)) >>= λ b. give (If c a b)) (λ a v.
    ap (λ o. go_on o (λ b. give (If c a b))) (sym (node_same now (path_under path (opposite c)) (path_under later (opposite c)) kept.integer (ap (λ n. n + 1) kept.depth) (ap (λ (fs : List (List ℤ)). fs ++ opposite c ∷ []) kept.context.forms) kept.quotients v)))
after_same rows now path later most (code.Below i k) u h kept =
    ap (λ (t : TableauRows). after (setting_of t path) (turn_of now path (code.Below i k)) u) (sym h.0)
    ∙ ap (λ (b : Bool). after (record { unknowns = now.unknowns; params = path.quotients.params; integer = b; class = class }) (turn_of now path (code.Below i k)) u) (sym kept.integer)
    ∙ ap (λ (n : ℕ). after (record { unknowns = now.unknowns; params = path.quotients.params; integer = later.integer; class = class }) (turn_of now (record path { depth = n }) (code.Below i k)) u) (sym kept.depth)
    ∙ ap (λ (fs : List (List ℤ)). after (record { unknowns = now.unknowns; params = path.quotients.params; integer = later.integer; class = class }) (turn_of now (record path { depth = later.depth; context = record path.context { forms = fs } }) (code.Below i k)) u) (sym kept.context.forms)
    ∙ ap (λ (q : Scope). after (record { unknowns = now.unknowns; params = q.params; integer = later.integer; class = class }) (turn_of now (record later { quotients = q }) (code.Below i k)) u) (sym kept.quotients)

-- the whole run goes on from what a turn leaves
pub turned_on : (rows now : TableauRows) (path later : Path) (pending : Waiting) (T : turns.Turn) (w u : Work) → IsRunning rows path pending → turn (setting_of rows path) (node_of rows path) w ≡ Done (turn_of now path T) u → TurnIs rows now path pending.most T → IsKept path later
    → whole_run rows path pending.frames w ≡ turned_run now later pending.frames T u
turned_on rows now path later pending T w u running e turned kept =
    ap (λ o. go_on o (λ t. finished path pending.frames t)) (by_turn rows path (turn_of now path T) w u e ∙ after_same rows now path later pending.most T u turned kept)
    ∙ same_after (after (setting_of now later) (turn_of now later T) u) (λ t. finished path pending.frames t) (λ t. finished later pending.frames t) (λ t v. sym (finished_grown pending.most rows.width path later pending.frames (grown_kept path later kept) running.waits t v))

-- ---- the second tree of an if

pub second_running : (most w : ℕ) (rows : TableauRows) (path mid now : Path) (frames : List Frame) (c : List ℤ) (mark : ContextMark) (quotients : ℕ) (first : ScopedTree)
    → Waits most w path (frame.SecondDue c rows mark quotients ∷ frames) → IsBack path mark quotients mid → IsBelow mid (opposite c ∷ []) [] now → path.depth ≡ length frames
    → first.width ≡ w → length frames + 1 + nesting first.tree ≤ most → most ≤ most_nesting
    → IsRunning rows now (record { frames = frame.FirstMade c first ∷ frames; most = most })
second_running most w rows path mid now frames c mark quotients first waits back entered deep width nested few =
    let due = waits.2 in
    let node = due.node in
    let still = ap (λ (q : Scope). length q.quotients) entered.quotients in
    let nothing = length-append mid.quotients.quotients [] in
    let params = ap (λ (q : Scope). q.params) entered.quotients in
    let kept = ap (λ (q : Scope). length q.quotients) back.quotients in
    let before = ap (λ (q : Scope). q.params) back.quotients in
    record {
      node = record {
        some_unknowns = node.some_unknowns;
        few_unknowns = node.few_unknowns;
        rows = node.rows;
        scope = omega (arith, node.scope, still, nothing, params, kept, before);
        context = omega (arith, node.context, entered.width, back.width);
        few_params = omega (arith, node.few_params, params, before);
        few_quotients = omega (arith, node.few_quotients, still, nothing, kept, entered.depth, back.depth, deep);
        shallow = omega (arith, due.nested, few, entered.depth, back.depth, deep);
      };
      depth = omega (arith, entered.depth, back.depth, deep);
      nested = omega (arith, due.nested, entered.depth, back.depth, deep);
      few = few;
      waits = (
        due.condition.wide,
        width ∙ sym waits.1,
        nested,
        subst (λ n. Waits most n now frames) (sym waits.1) (waits_grown most w (gone_back path mark quotients (length frames)) now frames (second_grown path mid now frames c mark quotients waits.0 back entered) waits.3),
      );
    }

-- back at its marks the context has room for what the second tree may need
pub back_room : (most : ℕ) (path mid : Path) (mark : ContextMark) (quotients depth : ℕ) → AreMarks path mark quotients → IsBack path mark quotients mid → HasRoom most (gone_back path mark quotients depth) → mid.depth ≡ depth → HasRoom most mid
back_room most path mid mark quotients depth marks back room deep =
    let gone = ap (λ (fs : List (List ℤ)). length fs) back.forms in
    omega (arith, room, back.room, length-take-le mark.forms path.context.forms marks.forms, gone, marks.forms, deep)

pub kept_room : (most : ℕ) (path later : Path) → IsKept path later → HasRoom most path → HasRoom most later
kept_room most path later kept room = omega (arith, kept.depth, kept.context.spare, room)

-- ---- the loop

-- what the loop over turns keeps: the whole run from here is that from the start
pub record GoesOn (start : TableauRows) (from : Path) (before : Waiting) (v : Work) (rows : TableauRows) (path : Path) (pending : Waiting) (w : Work) : Type 0 where
  pub running : IsRunning rows path pending
  pub budget : pending.most ≡ w.budget.nesting
  pub params : path.quotients.params ≡ from.quotients.params
  pub same : whole_run rows path pending.frames w ≡ whole_run start from before.frames v

-- what is left of the budgets does not rise by a turn, and falls by one after which the node goes on
pub less : (rows now : TableauRows) (path : Path) (T : turns.Turn) (w u : Work) → turn (setting_of rows path) (node_of rows path) w ≡ Done (turn_of now path T) u → 2 * left u + weight T ≤ 2 * left w
less rows now path T w u e = by T (subst (AtMost (left w)) e ((falls-turn S falls-class N).falls w)) (subst (Progress (left w)) e (fuel.turned S falls-class N (left w) w (omega arith)))
  where
    S : Setting
    S = setting_of rows path

    N : Node
    N = node_of rows path

    by : (T : turns.Turn) → AtMost (left w) (Done (turn_of now path T) u) → Progress (left w) (Done (turn_of now path T) u) → 2 * left u + weight T ≤ 2 * left w
    by (code.Closed tree) h k = omega (arith, h)
    by _ h k = omega (arith, k)

module _ (start : TableauRows) (from : Path) (before : Waiting) (v : Work) (rows : TableauRows) (path : Path) (pending : Waiting) (w : Work) (g : GoesOn start from before v rows path pending w) where
  module _ (now : TableauRows) (later : Path) (T : turns.Turn) (u : Work) (e : turn (setting_of rows path) (node_of rows path) w ≡ Done (turn_of now path T) u) (given : TurnIs rows now path u.budget.nesting T) (kept : IsKept path later) (budget : u.budget ≡ w.budget) where
    within : TurnIs rows now path pending.most T
    within = subst (λ n. TurnIs rows now path n T) (ap (λ (b : Budget). b.nesting) budget ∙ sym g.budget) given

    -- what is in hand keeps what the run needs
    pub follows : IsTurned now later pending T
    follows = turned_running rows now path later pending T g.running within kept

    -- the whole run is that from what the turn leaves
    pub leaves : whole_run start from before.frames v ≡ turned_run now later pending.frames T u
    leaves = sym g.same ∙ turned_on rows now path later pending T w u g.running e within kept

    pub goes_on : (next : TableauRows) (there : Path) (waiting : Waiting) → IsNextNode (weight T) later pending next there waiting → ((x : Work) → turned_run now later pending.frames T x ≡ whole_run next there waiting.frames x) → GoesOn start from before v next there waiting u
    goes_on next there waiting n same = record {
      running = n.running;
      budget = n.most ∙ (g.budget ∙ ap (λ (b : Budget). b.nesting) (sym budget));
      params = n.params ∙ (ap (λ (q : Scope). q.params) kept.quotients ∙ g.params);
      same = sym (same u) ∙ sym leaves;
    }

    pub smaller : (next : TableauRows) (there : Path) (waiting : Waiting) → IsNextNode (weight T) later pending next there waiting → 2 * left u + dues waiting.frames < 2 * left w + dues pending.frames
    smaller next there waiting n = omega (arith, n.nearer, less rows now path T w u e)

    -- the whole tree is made
    pub ends : (tree : Tree) → ((x : Work) → turned_run now later pending.frames T x ≡ give tree x) → whole_run start from before.frames v ≡ Done tree u
    ends tree same = leaves ∙ same u

  -- the node goes on, and nothing else changes
  module _ (now : TableauRows) (later : Path) (T : turns.Turn) (u : Work) (e : turn (setting_of rows path) (node_of rows path) w ≡ Done (turn_of now path T) u) (given : TurnIs rows now path u.budget.nesting T) (kept : IsKept path later) (budget : u.budget ≡ w.budget) (again : T ≡ code.Again) where
    stays_next : IsNextNode (weight T) later pending now later pending
    stays_next = rw again record {
      running = follows now later code.Again u (rw again at e) (rw again at given) kept budget;
      most = refl;
      params = refl;
      nearer = omega arith;
    }

    pub goes_on_again : GoesOn start from before v now later pending u
    goes_on_again = goes_on now later T u e given kept budget now later pending stays_next (λ x. rw again refl)

    pub smaller_again : 2 * left u + dues pending.frames < 2 * left w + dues pending.frames
    smaller_again = smaller now later T u e given kept budget now later pending stays_next

  pub refused : (u : Work) (o : Option Refusal) → IfSome o (λ f. turn (setting_of rows path) (node_of rows path) w ≡ Refused f u) → IfSome o (λ f. whole_run start from before.frames v ≡ Refused f u)
  refused u None h = h
  refused u (Some f) h = sym g.same ∙ ap (λ o. go_on o (λ t. finished path pending.frames t)) (refused_run_from (setting_of rows path) falls-class (node_of rows path) w u f h)

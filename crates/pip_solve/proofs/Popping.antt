-- Frames that are closed over a tree.
use Rattle.pip_solve.proofs.Words.{◌≡◌, refl, sym, ap, subst, ◌∙◌, ℕ, ◌+◌, ◌-◌, ◌≤◌, ◌∷◌, [], List, ℤ, length, arith, max, append-nil, length-append, opposite, If, NewParm, nesting, Work, TableauRows, ContextMark, Scope, ScopedTree, Path, Frame, IsBelow, IsBack, Waiting, finished, whole_run, HasRoom, AreMarks, Waits, IsClosing, IsNextNode, dues}
use Rattle.pip_solve.specs.declared.pending.Frame.TheVariants as frame
use Rattle.pip_solve.proofs.Running.{Grown, finished_grown, waits_grown}
use Rattle.pip_solve.proofs.Going.{second_on}
use Rattle.pip_solve.proofs.Handing.{second_running, back_room}

-- the path, its depth set
abbrev pub at_depth : Path → ℕ → Path
at_depth path depth = record path { depth = depth }

pub grown_depth : (path : Path) (depth : ℕ) → Grown path (at_depth path depth)
grown_depth path depth = record {
  integer = refl;
  forms = ([], sym (append-nil _));
  room = omega arith;
  params = refl;
  quotients = ([], sym (append-nil _));
}

nested_if : (n a b m : ℕ) → n + 1 + a ≤ m → n + 1 + b ≤ m → n + (1 + max a b) ≤ m
nested_if n a b m h k = grind (arith, h, k)

-- what the loop that closes frames keeps: the frames make of the tree what they made of the first
pub record Closes (first : ScopedTree) (from : Path) (before : Waiting) (tree : ScopedTree) (path : Path) (pending : Waiting) : Type 0 where
  pub closing : IsClosing tree path pending
  pub most : pending.most ≡ before.most
  pub params : path.quotients.params ≡ from.quotients.params
  pub dues : dues pending.frames ≤ dues before.frames
  pub same : (w : Work) → finished from before.frames first.tree w ≡ finished path pending.frames tree.tree w

module _ (first : ScopedTree) (from : Path) (before : Waiting) (tree : ScopedTree) (path : Path) where
  -- the frame that was pushed last comes off
  pub popped : (old now : Waiting) (f : Frame) → Closes first from before tree path old → old ≡ record now { frames = f ∷ now.frames } → Closes first from before tree path (record now { frames = f ∷ now.frames })
  popped old now f h e = subst (λ (p : Waiting). Closes first from before tree path p) e h

  module _ (now : Waiting) (depth : ℕ) where
    -- an if whose first tree is made
    module _ (c : List ℤ) (made : ScopedTree) (h : Closes first from before tree path (record now { frames = frame.FirstMade c made ∷ now.frames })) where
      pub selected : (both : ScopedTree) → both ≡ record { width = made.width; tree = If c made.tree tree.tree } → depth + 1 ≡ path.depth → Closes first from before both (at_depth path depth) now
      selected both e deep =
          let there = waits_grown now.most tree.width path (at_depth path depth) now.frames (grown_depth path depth) h.closing.waits.3 in
          rw e record {
            closing = record {
              depth = omega (arith, deep, h.closing.depth);
              nested = nested_if (length now.frames) (nesting made.tree) (nesting tree.tree) now.most h.closing.waits.2 (omega (arith, h.closing.nested));
              few = h.closing.few;
              waits = subst (λ n. Waits now.most n (at_depth path depth) now.frames) (sym h.closing.waits.1) there;
            };
            most = h.most;
            params = h.params;
            dues = h.dues;
            same = λ w. h.same w ∙ sym (finished_grown now.most tree.width path (at_depth path depth) now.frames (grown_depth path depth) h.closing.waits.3 (If c made.tree tree.tree) w);
          }

    -- a new parameter
    module _ (form : List ℤ) (den : ℤ) (h : Closes first from before tree path (record now { frames = frame.NewParm form den ∷ now.frames })) where
      pub defined : (made : ScopedTree) → made.width + 1 ≡ tree.width → made.tree ≡ NewParm form den tree.tree → depth + 1 ≡ path.depth → Closes first from before made (at_depth path depth) now
      defined made width e deep =
          let there = waits_grown now.most (tree.width - 1) path (at_depth path depth) now.frames (grown_depth path depth) h.closing.waits.4 in
          let narrower : tree.width - 1 ≡ made.width = omega (arith, width) in
          record {
            closing = record {
              depth = omega (arith, deep, h.closing.depth);
              nested = rw e (omega (arith, h.closing.nested));
              few = h.closing.few;
              waits = subst (λ n. Waits now.most n (at_depth path depth) now.frames) narrower there;
            };
            most = h.most;
            params = h.params;
            dues = h.dues;
            same = λ w. rw e (h.same w ∙ sym (finished_grown now.most (tree.width - 1) path (at_depth path depth) now.frames (grown_depth path depth) h.closing.waits.4 (NewParm form den tree.tree) w));
          }

    -- an if whose second tree is due
    module _ (c : List ℤ) (rows : TableauRows) (mark : ContextMark) (quotients : ℕ) (h : Closes first from before tree path (record now { frames = frame.SecondDue c rows mark quotients ∷ now.frames })) where
      pub marks : AreMarks path mark quotients
      marks = h.closing.waits.0

      pub over : mark.width ≡ rows.width
      over = h.closing.waits.2.node.context

      pub second_back : (mid : Path) → depth + 1 ≡ path.depth → IsBack (at_depth path depth) mark quotients mid → HasRoom now.most mid
      second_back mid deep back =
          let there = waits_grown now.most tree.width path (at_depth path depth) (frame.SecondDue c rows mark quotients ∷ now.frames) (grown_depth path depth) h.closing.waits in
          back_room now.most (at_depth path depth) mid mark quotients (length now.frames) there.0 back there.2.room (omega (arith, back.depth, deep, h.closing.depth))

      pub second_enters : (mid : Path) → depth + 1 ≡ path.depth → IsBack (at_depth path depth) mark quotients mid → 1 ≤ mid.context.spare
      second_enters mid deep back = omega (arith, second_back mid deep back, h.closing.waits.2.nested, back.depth, deep, h.closing.depth)

      pub second_room : (mid later : Path) → depth + 1 ≡ path.depth → IsBack (at_depth path depth) mark quotients mid → IsBelow mid (opposite c ∷ []) [] later → HasRoom now.most later
      second_room mid later deep back entered =
          let long = length-append mid.context.forms (opposite c ∷ []) in
          let more = ap (λ (fs : List (List ℤ)). length fs) entered.forms in
          omega (arith, second_back mid deep back, h.closing.waits.2.nested, back.depth, deep, h.closing.depth, entered.depth, entered.room, long, more)

      pub second_next : (mid later : Path) (last : Waiting) → depth + 1 ≡ path.depth → IsBack (at_depth path depth) mark quotients mid → IsBelow mid (opposite c ∷ []) [] later → last ≡ record now { frames = frame.FirstMade c tree ∷ now.frames } → IsNextNode 0 from before rows later last
      second_next mid later last deep back entered e =
          let there = waits_grown now.most tree.width path (at_depth path depth) (frame.SecondDue c rows mark quotients ∷ now.frames) (grown_depth path depth) h.closing.waits in
          rw e record {
            running = second_running now.most tree.width rows (at_depth path depth) mid later now.frames c mark quotients tree there back entered (omega (arith, deep, h.closing.depth)) refl (omega (arith, h.closing.nested)) h.closing.few;
            most = h.most;
            params = ap (λ (q : Scope). q.params) entered.quotients ∙ ap (λ (q : Scope). q.params) back.quotients ∙ h.params;
            nearer = omega (arith, h.dues);
          }

      pub second_same : (mid later : Path) (last : Waiting) → depth + 1 ≡ path.depth → IsBack (at_depth path depth) mark quotients mid → IsBelow mid (opposite c ∷ []) [] later → last ≡ record now { frames = frame.FirstMade c tree ∷ now.frames }
          → (w : Work) → finished from before.frames first.tree w ≡ whole_run rows later last.frames w
      second_same mid later last deep back entered e w =
          let up = at_depth path depth in
          let all = frame.SecondDue c rows mark quotients ∷ now.frames in
          let there = waits_grown now.most tree.width path up all (grown_depth path depth) h.closing.waits in
          rw e (h.same w
          ∙ sym (finished_grown now.most tree.width path up all (grown_depth path depth) h.closing.waits tree.tree w)
          ∙ second_on now.most tree.width rows up mid later now.frames c mark quotients there back entered (omega (arith, deep, h.closing.depth)) tree w)

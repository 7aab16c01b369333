-- The marks of blocks of forms: one more form, one more mark, and a mark that is renewed.
use Rattle.std.proofs.lemmas.List.{get_or-set_same, get_or-set_other}
use Rattle.std.proofs.lemmas.List.Elements.{All-set}
use Rattle.std.proofs.lemmas.Bool.{cases_eq, cases_lt}
use Rattle.form_run.proofs.Words.{◌≡◌, ◌∙◌, ap, sym, subst, ℕ, ◌+◌, ◌-◌, ◌*◌, ◌<◌, ◌≤◌, ℤ, pos, ◌≤ℤ◌, arith, Bool, true, false, if◌then◌else◌, ◌⊎◌, inl, inr, List, [], ◌∷◌, ◌++◌, length, take, get_or, length-append, get_or_append_left, get_or-append-add, All-push, norm, NumberLists, Mark, IsMark, IsMarkOf, StaysAbove, IsMarked, NoneLess, NormsWithin, value_at}
use Rattle.std.specs.Prelude.{slice_set}
use Rattle.std.proofs.Common.{length-set}
use Rattle.form_run.proofs.Nearness.{stays}

pub marked_more : (l now : NumberLists) (marks : List Mark) (f : List ℤ) → now ≡ record l { lists = l.lists ++ f ∷ [] } → IsMarked l marks → IsMarked now marks
marked_more l now marks f is h = rw is (record {
  few = omega (arith, h.few, length-append l.lists (f ∷ []));
  marks = h.marks;
  forms = λ b m i d lt from to.
      let inside : i < length l.lists = omega (arith, h.few, lt, from, to) in
      rw (get_or_append_left l.lists (f ∷ []) d i inside) (h.forms b m i d lt from to);
})

pub stay : (l : NumberLists) (marks : List Mark) (b at : ℕ) (m : Mark) (here : List ℤ) (s : ℤ) → IsMarked l marks → b < length marks → b * 64 ≡ at → length here + 1 ≡ l.size → pos 1 ≤ℤ s → StaysAbove (get_or marks b m) here s
    → NoneLess l here s at (at + 64) (pos 0)
stay l marks b at m here s h lt is e some near k f from to inside =
    stays (l.size - 1) (get_or marks b m) here (get_or l.lists k f) s (omega (arith, e)) some (h.marks b m lt) (h.forms b m k f lt (omega (arith, is, from)) (omega (arith, is, to))) near

-- a mark of a block at a vertex
module _ (l : NumberLists) (marks : List Mark) (h : IsMarked l marks) (at : ℕ) (m : Mark) (least s : ℤ) (here : List ℤ) (least_is : m.least ≡ least) (scale_is : m.scale ≡ s) (vertex_is : m.vertex.items ≡ here)
    (above : pos 0 ≤ℤ least) (some : pos 1 ≤ℤ s) (size : length here + 1 ≡ l.size) (values : NoneLess l here s at (at + 64) least) where
  mark : IsMark (l.size - 1) m
  mark = record { least = rw least_is above; scale = rw scale_is some; size = ap length vertex_is ∙ omega (arith, size) }

  value_here : (k : ℕ) (f : List ℤ) → at ≤ k → k < at + 64 → k < length l.lists → m.least ≤ℤ (value_at (l.size - 1) m.vertex.items m.scale (get_or l.lists k f))
  value_here k f from to inside = rw (least_is, scale_is, vertex_is) (values k f from to inside)

  pub marked_added : at ≡ length marks * 64 → at + 64 ≤ length l.lists → NormsWithin l at (at + 64) m.norm → IsMarked l (marks ++ m ∷ [])
  marked_added is whole norms = record {
    few = omega (arith, is, whole, length-append marks (m ∷ []));
    marks = All-push (IsMark (l.size - 1)) marks m h.marks mark;
    forms = λ b d i f lt from to. by b d i f (cases_lt b (length marks)) lt from to;
  }
    where
      by : (b : ℕ) (d : Mark) (i : ℕ) (f : List ℤ) → (b < length marks) ⊎ (length marks ≤ b) → b < length (marks ++ m ∷ []) → 64 * b ≤ i → i < 64 * b + 64 → IsMarkOf (l.size - 1) (get_or (marks ++ m ∷ []) b d) (get_or l.lists i f)
      by b d i f (inl lt) _ from to = rw (get_or_append_left marks (m ∷ []) d b lt) (h.forms b d i f lt from to)
      by b d i f (inr le) lt from to =
          let last : b ≡ length marks + 0 = omega (arith, le, lt, length-append marks (m ∷ [])) in
          rw (last, get_or-append-add marks (m ∷ []) 0 d) (record {
            norm = norms i f (omega (arith, is, last, from)) (omega (arith, is, last, to));
            value = value_here i f (omega (arith, is, last, from)) (omega (arith, is, last, to)) (omega (arith, is, last, to, whole));
          })

  pub marked_renewed : (b : ℕ) (d : Mark) → b < length marks → b * 64 ≡ at → m.norm ≡ (get_or marks b d).norm → IsMarked l (slice_set marks b m)
  marked_renewed b d lt is same = record {
    few = omega (arith, h.few, length-set marks b m);
    marks = All-set (IsMark (l.size - 1)) marks b m mark h.marks;
    forms = λ a e i f inside from to. by a e i f (cases_eq a b) (omega (arith, inside, length-set marks b m)) from to;
  }
    where
      by : (a : ℕ) (e : Mark) (i : ℕ) (f : List ℤ) → (a ≡ b) ⊎ (a ≡ b → ⊥) → a < length marks → 64 * a ≤ i → i < 64 * a + 64 → IsMarkOf (l.size - 1) (get_or (slice_set marks b m) a e) (get_or l.lists i f)
      by a e i f (inl here) inside from to =
          rw (here, get_or-set_same marks b m e lt) (record {
            norm = subst (λ (k : ℕ). norm (take (l.size - 1) (get_or l.lists i f)) ≤ k) (sym same) (h.forms b d i f lt (omega (arith, here, from)) (omega (arith, here, to))).norm;
            value = value_here i f (omega (arith, is, here, from)) (omega (arith, is, here, to)) (omega (arith, is, here, to, lt, h.few));
          })
      by a e i f (inr other) inside from to = rw (get_or-set_other marks b a m e other) (h.forms a e i f inside from to)

-- a mark more, or none
pub marked_perhaps : (l : NumberLists) (marks : List Mark) (m : Mark) (b : Bool) (now : List Mark) → now ≡ (if b then marks ++ m ∷ [] else marks) → IsMarked l marks → IsMarked l (marks ++ m ∷ []) → IsMarked l now
marked_perhaps l marks m true now is _ more = rw is more
marked_perhaps l marks m false now is less _ = rw is less

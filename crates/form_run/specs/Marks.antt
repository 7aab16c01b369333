-- What is kept of a block of forms that was looked at, and how it tells that none is below 0 at another vertex.
use Rattle.std.specs.Prelude.{◌≡◌, ℕ, ◌+◌, ◌-◌, ◌*◌, ◌<◌, ◌≤◌, ℤ, pos, ◌+ℤ◌, ◌-ℤ◌, ◌*ℤ◌, ◌≤ℤ◌, ◌<ℤ◌, unsigned_abs, List, length, take, slice_index_or, All}
use Rattle.pip_model.specs.Forms.{entry, dot}
use Rattle.row_laws.specs.Tableaus.{TableauRows}
use Rattle.form_basis.specs.Bounds.{norm}
use Rattle.form_basis.specs.ReadRows.{valued}
use Rattle.form_basis.specs.declared.basis.Basis.{Basis}
use Rattle.form_run.specs.FlatLists.{NumberLists}
use Rattle.form_run.specs.declared.marks.Mark.{Mark}
use Rattle.form_run.specs.declared.looking.Seen.{Seen}
use Rattle.form_run.specs.declared.looking.Seen.TheVariants as code

-- the value of a form over n places at a vertex, over the scale
abbrev pub value_at : ℕ → List ℤ → ℤ → List ℤ → ℤ
value_at n vertex s f = dot f vertex +ℤ s *ℤ entry f n

-- what is kept of forms over n places
pub record IsMark (n : ℕ) (m : Mark) : Type 0 where
  pub least : pos 0 ≤ℤ m.least
  pub scale : pos 1 ≤ℤ m.scale
  pub size : length m.vertex.items ≡ n

-- and of each of them
pub record IsMarkOf (n : ℕ) (m : Mark) (f : List ℤ) : Type 0 where
  pub norm : norm (take n f) ≤ m.norm
  pub value : m.least ≤ℤ (value_at n m.vertex.items m.scale f)

-- over both scales no number of the vertex differs from the mark's by more than d
abbrev pub IsNear : Mark → List ℤ → ℤ → ℕ → Type 0
IsNear m vertex s d = (i : ℕ) → i < length vertex → unsigned_abs (entry vertex i *ℤ m.scale -ℤ entry m.vertex.items i *ℤ s) ≤ d

-- the vertex is near enough to that of the mark
pub record StaysAbove (m : Mark) (vertex : List ℤ) (s : ℤ) : Type 0 where
  pub distance : ℕ
  pub near : IsNear m vertex s distance
  pub enough : pos (distance * m.norm) ≤ℤ (s *ℤ m.least)

-- each mark is one of a block of 64 forms, in order
pub record IsMarked (l : NumberLists) (kept : List Mark) : Type 0 where
  pub few : 64 * length kept ≤ length l.lists
  pub marks : All (IsMark (l.size - 1)) kept
  pub forms : (b : ℕ) (m : Mark) (i : ℕ) (f : List ℤ) → b < length kept → 64 * b ≤ i → i < 64 * b + 64
      → IsMarkOf (l.size - 1) (slice_index_or kept b m) (slice_index_or l.lists i f)

-- at the vertex none of the forms i to j - 1 is less than z
abbrev pub NoneLess : NumberLists → List ℤ → ℤ → ℕ → ℕ → ℤ → Type 0
NoneLess l vertex s i j z = (k : ℕ) (f : List ℤ) → i ≤ k → k < j → k < length l.lists
    → z ≤ℤ (value_at (l.size - 1) vertex s (slice_index_or l.lists k f))

-- the norms of the forms i to j - 1 without their constants are no more than m
abbrev pub NormsWithin : NumberLists → ℕ → ℕ → ℕ → Type 0
NormsWithin l i j m = (k : ℕ) (f : List ℤ) → i ≤ k → k < j → norm (take (l.size - 1) (slice_index_or l.lists k f)) ≤ m

-- none of the rows of the forms i to j - 1 has a value less than z
abbrev pub ValuesFrom : TableauRows → Basis → List (List ℤ) → ℕ → ℕ → ℤ → Type 0
ValuesFrom t b forms i j z = (k : ℕ) (f : List ℤ) → i ≤ k → k < j → z ≤ℤ (valued t b (slice_index_or forms k f))

pub record IsBelowAt (t : TableauRows) (b : Basis) (forms : List (List ℤ)) (i j k : ℕ) : Type 0 where
  pub after : i ≤ k
  pub inside : k < j
  pub first : ValuesFrom t b forms i k (pos 0)
  pub below : (f : List ℤ) → (valued t b (slice_index_or forms k f)) <ℤ pos 0

-- what is seen of the forms i to j - 1: the first whose value is below 0, or that none is less than z, which is not
abbrev pub IsSeen : TableauRows → Basis → List (List ℤ) → ℕ → ℕ → Seen → Type 0
IsSeen t b forms i j (code.Below k) = IsBelowAt t b forms i j k
IsSeen t b forms i j (code.Above z) = (pos 0 ≤ℤ z) × (ValuesFrom t b forms i j z)

-- The parts of a walk that makes the lesser of two answers.
use Rattle.std.specs.Prelude.{◌≡◌, ℕ, ◌+◌, ◌-◌, ◌*◌, ◌≤◌, List, length, drop, ℤ, ⊤}
use Rattle.pip_model.specs.Run.{class}
use Rattle.pip_model.specs.Tree as model
use Rattle.pip_model.specs.Tree.{Tree, If, Component}
use Rattle.pip_model.specs.Walks.{Walking, ◌>>=◌, ◌>>◌, make, by_run, Visit, where_holds, by_class}
use Rattle.pip_model.specs.Tools.{count_if, not_below, least_lists}
use Rattle.quast_walk.specs.Pairs.{AreLists}
use Rattle.least.specs.declared.rest.Asked.{Asked}
use Rattle.least.specs.declared.rest.Asked.TheVariants as asked
use Rattle.least.specs.declared.rest.Rest.{Rest}

-- by the sign of a form: what comes next, or a leaf, or a node that chooses over both
abbrev pub chosen_by : Visit → List ℤ → (Visit → Walking Tree) → Tree → Walking Tree
chosen_by h v next leaf = do
  k ← by_run (class h.context h.places v)
  by_class k (next h) (make leaf) (λ c. do
    count_if h
    x ← next (where_holds h c)
    make (If c x leaf))

-- ---- two lists

abbrev pub steps : Asked → ℕ
steps asked.Nothing = 0
steps (asked.NotBelow e) = 1

-- how often the sign of a difference may be asked for yet
abbrev pub left : Rest → ℕ
left r = 2 * (length r.first.now - r.next) - steps r.asked

abbrev pub IsWideForm : ℕ → Asked → Type 0
IsWideForm w asked.Nothing = ⊤
IsWideForm w (asked.NotBelow e) = length e.now ≡ w + 1

-- two lists over w places of as many components, and the next one of them
pub record IsRest (w : ℕ) (r : Rest) : Type 0 where
  pub lists : AreLists w r.first.now r.second.now
  pub next : r.next + steps r.asked ≤ length r.first.now
  pub wide : IsWideForm w r.asked

-- the lesser of the lists by the components from one on
abbrev pub lesser_from : List Component → List Component → ℕ → Visit → Walking Tree
lesser_from cs ds i h = least_lists (model.Leaf cs) (model.Leaf ds) (drop i cs) (drop i ds) h

abbrev pub lesser_by : List Component → List Component → ℕ → Asked → Visit → Walking Tree
lesser_by cs ds i asked.Nothing h = lesser_from cs ds i h
lesser_by cs ds i (asked.NotBelow e) h = not_below (model.Leaf ds) e.now (λ g. lesser_from cs ds (i + 1) g) h

abbrev pub rest_chosen : Rest → Visit → Walking Tree
rest_chosen r h = lesser_by r.first.now r.second.now r.next r.asked h

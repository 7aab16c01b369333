-- The steps by which a tree is read.
use Rattle.std.specs.Prelude.{ℕ, ◌+◌, ◌-◌, ℤ, pos, ◌==◌, List, [], ◌∷◌, codes, Option, Some, None, Result, Ok, Err, if◌then◌else◌}
use Rattle.pip_model.specs.declared.Kind.TheVariants.{LeftParen, RightParen, LeftRow}
use Rattle.pip_model.specs.Limits.{most_components}
use Rattle.pip_model.specs.Tokens.{token}
use Rattle.pip_model.specs.Tree.{Tree, Leaf, If, NewParm, Component}
use Rattle.pip_model.specs.Reading.{Fault, Components, Reads, ◌>>=◌, same_bracket, expect}
use Rattle.pip_model.specs.TreeText.{component, components, read_form, scope_number, divisor, expect_word, tree}
use Rattle.pip_model.specs.TreeText as model
use Rattle.text_reading.specs.Fronts.{with_front}
use Rattle.quast_text.specs.declared.tree.TreeHead.{TreeHead}
use Rattle.quast_text.specs.declared.tree.TreeHead.TheVariants as head

-- which tree begins
abbrev pub head_of : TreeHead → model.Head
head_of head.Ends = model.Ends
head_of head.Lists = model.Lists
head_of head.Chooses = model.Chooses
head_of head.Defines = model.Defines

-- the `(` of a tree, and which tree begins behind it
abbrev pub opening : List ℕ → ℕ → Reads model.Head
opening bytes place = do
  first ← expect bytes LeftParen place
  model.head bytes first

-- the next component of a list of which so many may follow, none at its `)`
abbrev pub next_component : List ℕ → ℕ → ℕ → ℕ → Result (Option (Component × ℕ)) Fault
next_component bytes w left place =
    if same_bracket (token bytes place).kind RightParen then Ok None else (if left == 0 then (do
      first ← expect bytes LeftRow place
      Err (Components (pos (most_components + 1)))) else (do
        c ← component bytes w place
        Ok (Some c)))

-- the components behind the first one, with that before them
unfoldable pub components_behind : List ℕ → ℕ → Component → ℕ → Reads (List Component)
components_behind bytes w first place = with_front (first ∷ []) (components bytes w (most_components - 1) place)

-- behind the word `list`
unfoldable pub list_at : List ℕ → ℕ → ℕ → Reads Tree
list_at bytes w place = do
  c ← component bytes w place
  cs ← components_behind bytes w c.0 c.1
  Ok (Leaf cs.0, cs.1)

-- behind the word `if`: a form and two trees, on whose paths so many if and newparm may stand
unfoldable pub choice_at : List ℕ → ℕ → ℕ → ℕ → Reads Tree
choice_at bytes room w place = do
  v ← read_form bytes w place
  a ← tree bytes room w v.1
  b ← tree bytes room w a.1
  after ← expect bytes RightParen b.1
  Ok (If v.0 a.0 b.0, after)

-- the number of the scope, a `(` and the word `div`
unfoldable pub quotient_opening : List ℕ → ℕ → ℕ → Result ℕ Fault
quotient_opening bytes w place = do
  scope ← scope_number bytes w place
  first ← expect bytes LeftParen scope
  expect_word bytes (codes "div") first

-- a divisor and two `)`
unfoldable pub closed_divisor : List ℕ → ℕ → Reads ℤ
closed_divisor bytes place = do
  d ← divisor bytes place
  inner ← expect bytes RightParen d.1
  after ← expect bytes RightParen inner
  Ok (d.0, after)

-- a form and its divisor
unfoldable pub definition_at : List ℕ → ℕ → ℕ → Reads (List ℤ × ℤ)
definition_at bytes w place = do
  at ← quotient_opening bytes w place
  v ← read_form bytes w at
  d ← closed_divisor bytes v.1
  Ok ((v.0, d.0), d.1)

-- behind the word `newparm`: a form, its divisor, and a tree over one place more
unfoldable pub define_at : List ℕ → ℕ → ℕ → ℕ → Reads Tree
define_at bytes room w place = do
  q ← definition_at bytes w place
  a ← tree bytes room (w + 1) q.1
  Ok (NewParm q.0.0 q.0.1 a.0, a.1)

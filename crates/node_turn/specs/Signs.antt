-- The signs of a node's rows, as the run sees them.
use Rattle.std.specs.Prelude.{◌≡◌, ◌+◌, ◌<◌, ℕ, ℤ, List, [], ◌∷◌, length, IsTrue, ⊤}
use Rattle.pip_model.specs.Rows.{Row}
use Rattle.pip_model.specs.Run.{Counted, ◌>>=◌, give, scan_on}
use Rattle.pip_model.specs.Listed.{all_fit, opposite_listed}
use Rattle.pip_model.specs.Run as run
use Rattle.sign_split.specs.declared.classes.Class.{Class}
use Rattle.sign_split.specs.declared.classes.Class.TheVariants as class
use Rattle.node_turn.specs.declared.scan.Signs.{Signs}
use Rattle.node_turn.specs.declared.scan.Signs.TheVariants as code

abbrev pub signs_of : Signs → run.Signs
signs_of code.AllPlus = run.AllPlus
signs_of (code.MinusAt r) = run.MinusAt r
signs_of (code.UnknownBy c) = run.UnknownBy c

-- the rows from place i on are classed in order on a context of w places, as a node's scan does
abbrev pub scanned : List (List ℤ) → ℕ → ℕ → run.Signs → List Row → Counted run.Signs
scanned K w i kept [] = give kept
scanned K w i kept (r ∷ rs) = do
  c ← run.class K w r.constant
  scan_on c i kept (λ now. scanned K w (i + 1) now rs)

-- a condition over w places, the number of whose opposite fits
pub record IsCondition (w : ℕ) (c : List ℤ) : Type 0 where
  pub wide : length c ≡ w + 1
  pub opposite_fits : IsTrue (all_fit (opposite_listed c))

abbrev pub ClassIs : ℕ → Class → Type 0
ClassIs w class.Plus = ⊤
ClassIs w class.Minus = ⊤
ClassIs w (class.Unknown c) = IsCondition w c

-- the row below 0 is one of n, and the condition is over w places
abbrev pub SignsAre : ℕ → ℕ → Signs → Type 0
SignsAre n w code.AllPlus = ⊤
SignsAre n w (code.MinusAt r) = r < n
SignsAre n w (code.UnknownBy c) = IsCondition w c

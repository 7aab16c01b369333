-- The class of a form, as the run sees it.
use Rattle.std.specs.Prelude.{◌≡◌, ℕ, ℤ, List, [], ◌∷◌, ◌++◌, IsTrue, length}
use Rattle.pip_model.specs.Listed.{all_fit, opposite_listed}
use Rattle.pip_model.specs.Forms.{widen_to}
use Rattle.pip_model.specs.Run as run
use Rattle.pip_model.specs.Run.{Counted, ◌>>=◌, point}
use Rattle.sign_split.specs.declared.classes.Class.{Class}
use Rattle.sign_split.specs.declared.classes.Class.TheVariants as code

abbrev pub class_of : Class → run.Class
class_of code.Plus = run.Plus
class_of code.Minus = run.Minus
class_of (code.Unknown c) = run.Unknown c

-- the condition of an unknown form has n entries, and its opposite does not overflow
abbrev pub ConditionIs : ℕ → Class → Type 0
ConditionIs n code.Plus = Unit {0}
ConditionIs n code.Minus = Unit {0}
ConditionIs n (code.Unknown c) = (length c ≡ n) × IsTrue (all_fit (opposite_listed c))

-- a class whose condition is read over w places
abbrev pub widened_class : ℕ → run.Class → run.Class
widened_class w run.Plus = run.Plus
widened_class w run.Minus = run.Minus
widened_class w (run.Unknown c) = run.Unknown (widen_to w c)

-- the class of a tightened form that is below 0 at some point
abbrev pub class_if_below : ℕ → List (List ℤ) → List ℤ → Counted run.Class
class_if_below w K c = do
  above ← point w (K ++ c ∷ [])
  run.class_above w K c above

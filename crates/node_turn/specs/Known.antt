-- The forms that are known to be at least 0 on a context.
use Rattle.std.specs.Prelude.{◌≡◌, ℕ, ℤ, List, All}
use Rattle.pip_model.specs.Run as run
use Rattle.pip_model.specs.Run.{Budget, Work, Done}
use Rattle.pip_problem.specs.Counts.{HasRoomFor, counted_more}
use Rattle.pip_problem.specs.declared.work.Counts.{Counts}

-- a form that was found at least 0 on a context, and what was counted for that
pub record NonnegativeForm : Type 0 where
  pub form : List ℤ
  pub counts : Counts

-- after any work of the budget that has room for its counts, the form's class on a context of w places is Plus,
-- with these counts
pub record IsKnownForm (K : List (List ℤ)) (w : ℕ) (b : Budget) (known : NonnegativeForm) : Type 0 where
  pub again : (v : Work) → v.budget ≡ b → HasRoomFor v known.counts
      → run.class K w known.form v ≡ Done run.Plus (counted_more v known.counts)

abbrev pub AreKnown : List (List ℤ) → ℕ → Budget → List NonnegativeForm → Type 0
AreKnown K w b known = All (IsKnownForm K w b) known

-- Where a walk stands: its context in memory.
use Rattle.std.specs.Prelude.{◌≡◌, ℕ, ◌+◌, ◌≤◌, ℤ, List, [], ◌∷◌, ◌++◌, length, IfSome, IsTrue, Result, Ok, Err}
use Rattle.pip_model.specs.Contexts.{IsContext}
use Rattle.pip_model.specs.Cuts.{Quotient, lower_bound, upper_bound}
use Rattle.pip_model.specs.Forms.{opposite}
use Rattle.pip_model.specs.Listed.{all_fit, opposite_listed}
use Rattle.pip_model.specs.Run.{Work, class, listed}
use Rattle.pip_model.specs.Tree.{Tree}
use Rattle.pip_model.specs.Walks.{Walked, Stopped, Walking, ◌>>=◌, ◌>>◌, by_run, not_negative, Visit, Walker, where_holds, below_listed, walk}
use Rattle.sign_split.specs.Scoped.{ScopedForms}
use Rattle.sign_split.specs.ContextMark.{ContextMark}
use Rattle.quast_walk.specs.Faults.{tool_fault}
use Rattle.quast_walk.specs.declared.refusal.ToolRefusal.{ToolRefusal}

-- a walk at a depth whose context is this one
abbrev pub visit_of : ScopedForms → ℕ → Visit
visit_of k depth = record { places = k.width; context = k.forms; depth = depth }

-- what is done at a new parameter before what comes next
abbrev pub below_then : {X : Type 0} → Walker X → Visit → Quotient → Walking X → Walking X
below_then W h q next = do
  c ← by_run (class h.context h.places q.form)
  not_negative c
  W.at_quotient h
  by_run (listed (below_listed h q))
  next

-- it was done, or a refusal
abbrev pub PassesTo : {X A : Type 0} → Result A ToolRefusal → Work → Walked X → Walking X → Type 0
PassesTo (Ok x) now whole next = whole ≡ next now
PassesTo (Err e) now whole next = IfSome (tool_fault e) (λ f. whole ≡ Stopped f now)

-- what is done with both trees of a node that chooses, whose form v has both signs, by the condition that parts them
abbrev pub both_trees : {X : Type 0} → Walker X → Visit → List ℤ → Tree → Tree → List ℤ → Walking X
both_trees W h v a b c = do
  W.at_split h
  x ← walk W (where_holds h c) a
  W.joined v x (walk W (where_holds h (opposite c)) b)

-- a condition over no more than w places, the number of whose opposite fits
pub record IsCondition (w : ℕ) (c : List ℤ) : Type 0 where
  pub some : 1 ≤ length c
  pub narrow : length c ≤ w + 1
  pub opposite_fits : IsTrue (all_fit (opposite_listed c))

-- one form more
pub record IsUnder (before : ScopedForms) (c : List ℤ) (now : ScopedForms) : Type 0 where
  pub width : now.width ≡ before.width
  pub forms : now.forms ≡ before.forms ++ c ∷ []
  pub spare : before.spare ≤ now.spare + 1

-- one place more, at which the quotient stands, and its two bounds
pub record IsBelow (before : ScopedForms) (q : Quotient) (now : ScopedForms) : Type 0 where
  pub width : now.width ≡ before.width + 1
  pub forms : now.forms ≡ before.forms ++ lower_bound (before.width + 1) before.width q
      ∷ upper_bound (before.width + 1) before.width q ∷ []
  pub spare : before.spare ≤ now.spare + 2

-- more forms, and no less room than they leave
pub record IsGrown (before now : ScopedForms) : Type 0 where
  pub added : List (List ℤ)
  pub forms : now.forms ≡ before.forms ++ added
  pub spare : before.spare ≤ now.spare + length added

-- the mark of the context
pub record IsMarked (before : ScopedForms) (mark : ContextMark) : Type 0 where
  pub forms : mark.forms ≡ length before.forms
  pub width : mark.width ≡ before.width
  pub narrow : IsContext before.width before.forms

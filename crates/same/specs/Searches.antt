-- The parts of a walk that looks for a difference.
use Rattle.std.specs.Prelude.{◌≡◌, ℕ, ◌++◌, ℤ, pos, negsuc, ◌-ℤ◌, List, [], ◌∷◌, Option, IfSome, Result, Ok, Err}
use Rattle.pip_model.specs.Forms.{constant, plus, opposite}
use Rattle.pip_model.specs.Listed.{opposite_listed}
use Rattle.pip_model.specs.Tree.{Component}
use Rattle.pip_model.specs.Run.{Work, point, listed}
use Rattle.pip_model.specs.Walks.{Walked, Stopped, Walking, ◌>>=◌, ◌>>◌, by_run, Visit}
use Rattle.pip_model.specs.Tools.{difference, difference_listed, differ_or, first_of_both}
use Rattle.quast_walk.specs.Faults.{tool_fault}
use Rattle.quast_walk.specs.declared.refusal.ToolRefusal.{ToolRefusal}

-- after a calculation the context's point where c is at least 0, cut to m numbers, else what comes next
abbrev pub point_or : ℕ → Visit → List ℤ → List ℤ → Walking (Option (List ℤ)) → Walking (Option (List ℤ))
point_or m h zs c next = do
  by_run (listed zs)
  some ← by_run (point h.places (h.context ++ c ∷ []))
  differ_or m some next

-- where two components differ, the first above or below the second, else what comes next
abbrev pub component_or : ℕ → Visit → Component → Component → Walking (Option (List ℤ)) → Walking (Option (List ℤ))
component_or m h c d next =
    let e = difference c d in
    by_run (listed (difference_listed c d)) >> point_or m h ((constant e -ℤ pos 1) ∷ []) (plus e (negsuc 0)) (point_or m h (opposite_listed e) (opposite e) next)

-- a point that was found, a refusal, or what comes next
abbrev pub Finds : Result (Option (List ℤ)) ToolRefusal → Work → Walked (Option (List ℤ)) → Walking (Option (List ℤ)) → Type 0
Finds (Ok found) now whole next = whole ≡ first_of_both [] found next now
Finds (Err e) now whole next = IfSome (tool_fault e) (λ f. whole ≡ Stopped f now)

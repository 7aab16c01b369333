-- The fuel of a run does not end before it: each turn but a leaf leaves less of the budgets, and any more fuel gives the same.
use Rattle.run_laws.proofs.Words.{◌≡◌, sym, subst, refl, ◌⊎◌, inl, inr, ℕ, ◌<◌, ◌≤◌, arith, List, ℤ, Problem, Tree, Work, Done, go_on, left, Setting, Node, Turn, Closed, turn, run, run_from, setting, point_setting, Falls, Progress, turned, enough_fuel, falls-class, falls-constant_class}

-- ---- turns

closed_or_less : (n : ℕ) (t : Turn) (v : Work) → Progress n (Done t v) → ((u : Tree) × (t ≡ Closed u)) ⊎ (left v < n)
closed_or_less n (Closed u) v h = inl (u, refl)
closed_or_less n _ v h = inr h

turn-less : (S : Setting) → ((K : List (List ℤ)) (w : ℕ) (t : List ℤ) → Falls (S.class K w t)) → (N : Node) (t : Turn) (w v : Work) → turn S N w ≡ Done t v
    → ((u : Tree) × (t ≡ Closed u)) ⊎ (left v < left w)
turn-less S class_falls N t w v e = closed_or_less (left w) t v (subst (λ o. Progress (left w) o) e (turned S class_falls N (left w) w (omega arith)))

-- of a problem's run
pub problem_turn-less : (P : Problem) (N : Node) (t : Turn) (w v : Work) → turn (setting P) N w ≡ Done t v → ((u : Tree) × (t ≡ Closed u)) ⊎ (left v < left w)
problem_turn-less P = turn-less (setting P) falls-class

-- of a point's run
pub point_turn-less : (places : ℕ) (N : Node) (t : Turn) (w v : Work) → turn (point_setting places) N w ≡ Done t v → ((u : Tree) × (t ≡ Closed u)) ⊎ (left v < left w)
point_turn-less places = turn-less (point_setting places) falls-constant_class

-- ---- runs

-- of a problem
pub problem_run-fuel : (P : Problem) (N : Node) (fuel : ℕ) (w : Work) → left w ≤ fuel → go_on (turn (setting P) N w) (run (setting P) fuel) ≡ run_from (setting P) N w
problem_run-fuel P N fuel w h = sym (enough_fuel (setting P) falls-class N fuel w h)

-- of a point
pub point_run-fuel : (places : ℕ) (N : Node) (fuel : ℕ) (w : Work) → left w ≤ fuel → go_on (turn (point_setting places) N w) (run (point_setting places) fuel) ≡ run_from (point_setting places) N w
point_run-fuel places N fuel w h = sym (enough_fuel (point_setting places) falls-constant_class N fuel w h)

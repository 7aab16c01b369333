-- A context with one form more.
use Rattle.kept_run.proofs.Words.{ℕ, ◌+◌, ◌≤◌, ℤ, List, [], ◌∷◌, ◌++◌, length, IsContext}

pub context_longer : (n : ℕ) (K : List (List ℤ)) (c : List ℤ) → 1 ≤ length c → length c ≤ n + 1 → IsContext n K → IsContext n (K ++ c ∷ [])
context_longer n [] c some narrow all = (record { some = some; most = narrow }, tt)
context_longer n (x ∷ K) c some narrow all = (all.0, context_longer n K c some narrow all.1)

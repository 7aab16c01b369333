-- The first rows, which are kept as rows, are the first of all.
use Rattle.node_turn.proofs.Words.{◌≡◌, ◌∙◌, ap, ℕ, ◌≤◌, List, length, take, Row}
use Rattle.std.proofs.lemmas.List.{take-take}

pub take-made : (made all : List Row) (n : ℕ) → made ≡ take (length made) all → n ≤ length made → take n made ≡ take n all
take-made made all n e h = ap (λ (rows : List Row). take n rows) e ∙ take-take n (length made) all h

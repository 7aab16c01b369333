-- The answer of a problem whose context has a point.
use Rattle.pip_solve.proofs.Words.{◌≡◌, ◌∙◌, ap, ℤ, true, Option, Some, None, List, is_some, IfSome, Problem, Tree, Solved, Work, Outcome, Done, Refused, Refusal, go_on, give, point, answer, answer_from, run_from, setting, first_node, has_point}

module _ (P : Problem) (w v : Work) (given : has_point P.params P.context w ≡ Done true v) where
  pointed : answer P w ≡ go_on (run_from (setting P) (first_node P) v) (λ t. give (Solved t))
  pointed = by (point P.params P.context w) given
    where
      by : (o : Outcome (Option (List ℤ))) → go_on o (λ p. give (is_some p)) ≡ Done true v → go_on o (answer_from P) ≡ go_on (run_from (setting P) (first_node P) v) (λ t. give (Solved t))
      by (Done (Some p) u) e = let same : u ≡ v = cc in ap (λ (x : Work). go_on (run_from (setting P) (first_node P) x) (λ t. give (Solved t))) same
      by _ e = absurd cc

  pub answer-made : (tree : Tree) (x : Work) → run_from (setting P) (first_node P) v ≡ Done tree x → answer P w ≡ Done (Solved tree) x
  answer-made tree x e = pointed ∙ ap (λ (o : Outcome Tree). go_on o (λ t. give (Solved t))) e

  pub answer-refused : (o : Option Refusal) (x : Work) → IfSome o (λ f. run_from (setting P) (first_node P) v ≡ Refused f x) → IfSome o (λ f. answer P w ≡ Refused f x)
  answer-refused None x e = e
  answer-refused (Some f) x e = pointed ∙ ap (λ (o : Outcome Tree). go_on o (λ t. give (Solved t))) e

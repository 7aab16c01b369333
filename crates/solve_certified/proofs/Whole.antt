-- The answer's tree has whole lists, and the point's numbers fit.
use Rattle.solve_certified.proofs.Words.{◌≡◌, refl, ap, subst, ℕ, true, List, ℤ, narrow_rows, Option, Some, None, Problem, Tree, Bottom, Leaf, If, NewParm, Answer, Solved, vector_fits, IsProblem, Work, Outcome, Done, Refused, give, first_node, setting, run_from, point, answer_from, both_true, done_by, tree_shaped, point_fits, are_whole, is_whole_answer}
use Rattle.run_laws.proofs.Ensured.{OnDone}
use Rattle.run_laws.proofs.PointRight.{IsPointOf, point_right}
use Rattle.certificate_laws.proofs.TreeShape.{Shaped}
use Rattle.run_laws.proofs.FitRun.{fitting_rows}

shaped_whole : (n : ℕ) (t : Tree) → Shaped n t → are_whole n t ≡ true
shaped_whole n Bottom h = refl
shaped_whole n (Leaf cs) h = h
shaped_whole n (If v a b) h = both_true (are_whole n a) (are_whole n b) (shaped_whole n a h.0) (shaped_whole n b h.1)
shaped_whole n (NewParm v d a) h = shaped_whole n a h.2

module _ (P : Problem) (formed : IsProblem P) where
  abbrev answer_in : Answer → Outcome Answer → Answer
  answer_in d (Done x w) = x
  answer_in d (Refused e w) = d

  by_point : P.integer ≡ true → (p : Option (List ℤ)) (a : Answer) (v w : Work) → IsPointOf P.params P.context p → answer_from P p v ≡ Done a w → is_whole_answer P.unknowns a ≡ true
  by_point integer None a v w h e = subst (λ (x : Answer). is_whole_answer P.unknowns x ≡ true) (ap (answer_in a) e) refl
  by_point integer (Some p) a v w h e =
      let made = done_by (run_from (setting P) (first_node P) v) (λ t. give (Solved t)) a w e in
      let same : Solved made.value ≡ a = ap (answer_in a) made.rest in
      let shaped : Shaped P.unknowns made.value = subst (OnDone (Shaped P.unknowns)) made.first ((tree_shaped P formed integer p h).ensures v) in
      subst (λ (x : Answer). is_whole_answer P.unknowns x ≡ true) same (shaped_whole P.unknowns made.value shaped)

  pub answer_whole : P.integer ≡ true → (p : Option (List ℤ)) (a : Answer) (u v w : Work) → point P.params P.context u ≡ Done p v → answer_from P p v ≡ Done a w → is_whole_answer P.unknowns a ≡ true
  answer_whole integer p a u v w found e =
      by_point integer p a v w (subst (OnDone (IsPointOf P.params P.context)) found ((point_right P.params P.context (narrow_rows P.params P.context formed.context)).ensures u)) e

  pub point_numbers : (p : Option (List ℤ)) (u v : Work) → point P.params P.context u ≡ Done p v → vector_fits p ≡ true
  point_numbers p u v found =
      subst (OnDone (λ (x : Option (List ℤ)). vector_fits x ≡ true)) found ((point_fits P.params P.context (fitting_rows P.params P.context formed.context)).ensures u)

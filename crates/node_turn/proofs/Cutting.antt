-- Cuts by a quotient.
use Rattle.node_turn.proofs.Words.{◌≡◌, refl, ℕ, Option, Some, None, IfSome, rounding, residue_of, Row, Work, Done, Refused, Refusal, Node, Setting, Class, scope, quotient_cut, known_cut}

module _ (S : Setting) (N : Node) (i : ℕ) (R : Row) (q : ℕ) (w v : Work) where
  -- a cut by a known quotient, by the class of what the quotient leaves
  pub known_by : (c : Class) → S.class N.context (scope S N) (rounding (scope S N) q (residue_of R)) w ≡ Done c v → quotient_cut S N i R (Some q) w ≡ known_cut N i R q c v
  known_by c e = rw e refl

  pub known_refused : (o : Option Refusal) → IfSome o (λ f. S.class N.context (scope S N) (rounding (scope S N) q (residue_of R)) w ≡ Refused f v) → IfSome o (λ f. quotient_cut S N i R (Some q) w ≡ Refused f v)
  known_refused None e = e
  known_refused (Some f) e = rw e refl

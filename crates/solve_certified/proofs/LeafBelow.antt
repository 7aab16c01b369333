-- A leaf at the end of a trail.
use Rattle.solve_certified.proofs.Words.{◌≡◌, refl, ap, ap₂, sym, subst, ◌∙◌, List, [], ◌∷◌, ◌++◌, Option, Some, None, IfSome, Problem, Component, Refutation, LeafProofs, Certificate, LeafCase, Work, Outcome, Done, Refused, Refusal, Counted, go_on, give, PathQuotient, made_leaf, unshared, made_proofs, TrailForms, made_below}
use Rattle.certificate_check.specs.Walks.{leaf_tree}

module _ (P : Problem) (q : TrailForms) (c : Certificate) (w : Work) where
  abbrev pub here : Option (List Component) → LeafCase
  here list = record { scope = q.scope; path = q.forms; listed = []; list = list }

  abbrev with_leaf : List Refutation → Counted Certificate
  with_leaf rs = give (record c { leaves = c.leaves ++ unshared rs ∷ [] })

  one_leaf : (L : LeafCase) (o : Outcome (List Refutation))
      → go_on (go_on o (λ (rs : List Refutation). give (unshared rs ∷ []))) (λ (ls : List LeafProofs). give (record c { leaves = c.leaves ++ ls })) ≡ go_on o with_leaf
  one_leaf L (Done rs v) = refl
  one_leaf L (Refused e v) = refl

  as_one : (list : Option (List Component)) → made_below P q c (leaf_tree list) w ≡ go_on (made_leaf P (here list) q.quotients list w) with_leaf
  as_one None = one_leaf (here None) (made_leaf P (here None) q.quotients None w)
  as_one (Some cs) = one_leaf (here (Some cs)) (made_leaf P (here (Some cs)) q.quotients (Some cs) w)

  pub leaf_done : (list : Option (List Component)) (p : LeafProofs) (v : Work) → made_proofs P (here list) q.quotients w ≡ Done p v
      → made_below P q c (leaf_tree list) w ≡ Done (record c { leaves = c.leaves ++ p ∷ [] }) v
  leaf_done list p v e = as_one list ∙ at (made_leaf P (here list) q.quotients list w) e
    where
      at : (o : Outcome (List Refutation)) → go_on o (λ (rs : List Refutation). give (unshared rs)) ≡ Done p v → go_on o with_leaf ≡ Done (record c { leaves = c.leaves ++ p ∷ [] }) v
      at (Done rs u) e = ap (λ (x : Outcome LeafProofs). go_on x (λ (l : LeafProofs). give (record c { leaves = c.leaves ++ l ∷ [] }))) e
      at (Refused f u) e = cc

  pub leaf_fault : (list : Option (List Component)) (f : Option Refusal) (v : Work) → IfSome f (λ e. made_proofs P (here list) q.quotients w ≡ Refused e v)
      → IfSome f (λ e. made_below P q c (leaf_tree list) w ≡ Refused e v)
  leaf_fault list None v h = tt
  leaf_fault list (Some e) v h = as_one list ∙ at (made_leaf P (here list) q.quotients list w) h
    where
      at : (o : Outcome (List Refutation)) → go_on o (λ (rs : List Refutation). give (unshared rs)) ≡ Refused e v → go_on o with_leaf ≡ Refused e v
      at (Done rs u) h = cc
      at (Refused f u) h = ap (λ (x : Outcome LeafProofs). go_on x (λ (l : LeafProofs). give (record c { leaves = c.leaves ++ l ∷ [] }))) h

  pub leaf_is_done : (list : Option (List Component)) (L : LeafCase) (ks : List PathQuotient) (p : LeafProofs) (d : Certificate) (v : Work) → L ≡ here list → ks ≡ q.quotients → d ≡ record c { leaves = c.leaves ++ p ∷ [] }
      → made_proofs P L ks w ≡ Done p v → made_below P q c (leaf_tree list) w ≡ Done d v
  leaf_is_done list L ks p d v e g k h = leaf_done list p v (sym (ap₂ (λ (M : LeafCase) (js : List PathQuotient). made_proofs P M js w) e g) ∙ h) ∙ ap (λ (x : Certificate). give x v) (sym k)

  pub leaf_is_refused : (list : Option (List Component)) (L : LeafCase) (ks : List PathQuotient) (f : Option Refusal) (v : Work) → L ≡ here list → ks ≡ q.quotients → IfSome f (λ e. made_proofs P L ks w ≡ Refused e v)
      → IfSome f (λ e. made_below P q c (leaf_tree list) w ≡ Refused e v)
  leaf_is_refused list L ks f v e g h =
      leaf_fault list f v (subst (λ (o : Outcome LeafProofs). IfSome f (λ (x : Refusal). o ≡ Refused x v)) (ap₂ (λ (M : LeafCase) (js : List PathQuotient). made_proofs P M js w) e g) h)

-- The steps by which two lists are compared, or the lesser of them is made.
use Rattle.same.proofs.Words.{◌≡◌, ◌∙◌, ap, ap₂, sym, refl, ℕ, ◌+◌, ◌<◌, List, [], ◌∷◌, length, get_or, drop, ℤ, Option, Some, None, Result, Ok, Err, drop_more, Component, Work, Walked, Made, Stopped, Walking, walk_on, make, first_numbers, first_of_both, differ_or, same_lists, AgreesWalked, ScopedForms, tool_fault, visit_of, stops, component_or, Finds}
use Rattle.quast_walk.specs.declared.refusal.ToolRefusal.{ToolRefusal}

-- ---- where a condition is at least 0

module _ (m : ℕ) (next : Walking (Option (List ℤ))) (now : Work) where
  in_two : (o : Walked (Option (List ℤ))) → walk_on o (λ p. differ_or m p next) ≡ walk_on (walk_on o (λ p. make (first_numbers m p))) (λ p. first_of_both [] p next)
  in_two (Made None w) = refl
  in_two (Made (Some p) w) = refl
  in_two (Stopped f w) = refl

  found_by : (r : Result (Option (List ℤ)) ToolRefusal) (o : Walked (Option (List ℤ))) → AgreesWalked (λ p. p) tool_fault r now o → Finds r now (walk_on o (λ p. first_of_both [] p next)) next
  found_by (Ok p) o h = ap (λ (x : Walked (Option (List ℤ))). walk_on x (λ p. first_of_both [] p next)) h
  found_by (Err e) o h = stops (tool_fault e) o (λ p. first_of_both [] p next) now h

  pub by_point : (r : Result (Option (List ℤ)) ToolRefusal) (o : Walked (Option (List ℤ))) → AgreesWalked (λ p. p) tool_fault r now (walk_on o (λ p. make (first_numbers m p))) → Finds r now (walk_on o (λ p. differ_or m p next)) next
  by_point r o h = rw (in_two o) (found_by r (walk_on o (λ p. make (first_numbers m p))) h)

-- ---- the components in order

pub at_component : (m : ℕ) (k : ScopedForms) (depth : ℕ) (cs ds : List Component) (i : ℕ) (c d : Component) → i < length cs → i < length ds → c ≡ get_or cs i c → d ≡ get_or ds i d → (w : Work)
    → same_lists m (visit_of k depth) (drop i cs) (drop i ds) w ≡ component_or m (visit_of k 0) c d (same_lists m (visit_of k depth) (drop (i + 1) cs) (drop (i + 1) ds)) w
at_component m k depth cs ds i c d lc ld ec ed w =
    ap₂ (λ (xs ys : List Component). same_lists m (visit_of k depth) xs ys w)
    (drop_more cs i c lc ∙ ap (λ (x : Component). x ∷ drop (i + 1) cs) (sym ec)) (drop_more ds i d ld ∙ ap (λ (x : Component). x ∷ drop (i + 1) ds) (sym ed))

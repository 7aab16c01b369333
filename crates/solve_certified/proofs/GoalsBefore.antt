-- What stays from one refutation to the next.
use Rattle.solve_certified.proofs.Words.{◌≡◌, ◌∙◌, ap, sym, ◌+◌, ℕ, ℤ, List, zero, suc, ◌<◌, ◌++◌, length, take, drop, append-nil, arith, without_last, add-one, take-append-drop, own_before, own_forms, staying, AreMore}
use Rattle.solve_certified.specs.declared.leaf.LeafMaking.{LeafMaking}

pub own_next : (m : LeafMaking) (r : ℕ) → own_before m.leaf (r + 1) ≡ own_forms m.leaf r
own_next m r = ap (own_before m.leaf) (add-one r)

-- of the refutation before stay all forms but the last; of the leaf's all
pub stays_first : (m : LeafMaking) (r : ℕ) (F now : List (List ℤ)) → r ≡ 0 → now ≡ F ++ own_before m.leaf r → now ≡ staying m.leaf r F
stays_first m zero F now z e = e ∙ append-nil F
stays_first m (suc r) F now z e = absurd (omega arith)

pub stays_later : (m : LeafMaking) (r : ℕ) (F now kept : List (List ℤ)) → 0 < r → now ≡ F ++ own_before m.leaf r → kept ≡ without_last now → kept ≡ staying m.leaf r F
stays_later m zero F now kept h e k = absurd (omega arith)
stays_later m (suc r) F now kept h e k = k ∙ ap without_last e

pub all_turned : (m : LeafMaking) (r : ℕ) (F kept now : List (List ℤ)) → kept ≡ staying m.leaf r F → take (length kept) now ≡ kept → AreMore m.leaf r (drop (length kept) now) → now ≡ F ++ own_before m.leaf (r + 1)
all_turned m r F kept now e stay more =
    sym (take-append-drop (length kept) now)
    ∙ ap (λ (xs : List (List ℤ)). xs ++ drop (length kept) now) (stay ∙ e)
    ∙ more F
    ∙ ap (λ (own : List (List ℤ)). F ++ own) (sym (own_next m r))

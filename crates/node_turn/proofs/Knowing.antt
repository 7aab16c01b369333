-- The forms that are known stay known while the context stays.
use Rattle.node_turn.proofs.Words.{◌≡◌, ap, ◌⊎◌, inl, inr, ℕ, ℤ, ◌-◌, List, [], ◌∷◌, ◌++◌, length, arith, All-push, All-same, Work, Budget, Done, Plus, class, Counts, ScopedForms, IsKeptContext, NonnegativeForm, IsKnownForm, AreKnown}
use Rattle.run_laws.proofs.CountedAgain.{class-again}

-- a form whose class was Plus is known with what was counted
pub found_known : (K : List (List ℤ)) (w : ℕ) (entries : List ℤ) (before after : Work) (counts : Counts) → class K w entries before ≡ Done Plus after
    → counts.pivots ≡ after.pivots - before.pivots → counts.cuts ≡ after.cuts - before.cuts → counts.splits ≡ after.splits - before.splits → IsKnownForm K w before.budget (record { form = entries; counts = counts })
found_known K w entries before after counts e pivots cuts splits = record {
  again = λ v same room. rw (pivots, cuts, splits) (class-again K w entries Plus before after v e same
      (omega (arith, pivots, room.pivots)) (omega (arith, cuts, room.cuts)) (omega (arith, splits, room.splits)));
}

module _ (K : List (List ℤ)) (w : ℕ) (b : Budget) where
  pub known_none : (now : List NonnegativeForm) → now ≡ [] → AreKnown K w b now
  known_none now e = λ k d h. absurd (omega (arith, ap (λ (xs : List NonnegativeForm). length xs) e))

  pub known_same : (old now : List NonnegativeForm) → now ≡ old → AreKnown K w b old → AreKnown K w b now
  known_same old now e h = All-same (IsKnownForm K w b) now old e h

  pub known_more : (old now : List NonnegativeForm) (more : NonnegativeForm) → (now ≡ old ++ more ∷ []) ⊎ (now ≡ old) → AreKnown K w b old → IsKnownForm K w b more → AreKnown K w b now
  known_more old now more (inl e) h k = All-same (IsKnownForm K w b) now (old ++ more ∷ []) e (All-push (IsKnownForm K w b) old more h k)
  known_more old now more (inr e) h k = known_same old now e h

-- on the same context with the same budget
pub known_on : (k now : ScopedForms) (b c : Budget) (known : List NonnegativeForm) → IsKeptContext k now → c ≡ b → AreKnown k.forms k.width b known → AreKnown now.forms now.width c known
known_on k now b c known kept e h = rw (kept.forms, kept.width, e) h

pub at_start : (k now : ScopedForms) (b c : Budget) (known : List NonnegativeForm) → IsKeptContext k now → c ≡ b → AreKnown now.forms now.width c known → AreKnown k.forms k.width b known
at_start k now b c known kept e h = rw (← kept.forms, ← kept.width, ← e) h

-- Texts of lists.
use Rattle.std.proofs.Common.{◌≡◌, ◌∙◌, sym, ◌+◌, ◌<◌, ◌≤◌, refl, ap, length, take, get_or, ℕ, ℤ, pos, neg_ℤ, zero, suc, List, [], ◌∷◌, ◌++◌, flat_map, arith}
use Rattle.std.specs.Prelude.{codes}
use Rattle.std.specs.Fmt.{decimal}
use Rattle.std.proofs.lemmas.List.{take_all, take_more, flat_map_more, append_assoc}
use Rattle.pip_model.specs.TreeText.{spell_numbers}
use Rattle.text_printing.specs.Printing.{Begins, spell_entry}

pub numbers_flat : (cs : List ℤ) → flat_map spell_entry cs ≡ spell_numbers cs
numbers_flat [] = refl
numbers_flat (c ∷ cs) = ap (λ t. spell_entry c ++ t) (numbers_flat cs)

-- the text of all elements once they are gone through
pub written : {X : Type 0} (f : X → List ℕ) (xs : List X) (i : ℕ) (text : List ℕ) → length xs ≤ i → flat_map f xs ≡ text → flat_map f (take i xs) ≡ text
written f xs i text h e = rw (take_all i xs h) e

-- the text of one element more, behind that of those before it
pub spelt_more : {X : Type 0} (f : X → List ℕ) (xs : List X) (i : ℕ) (d : X) (old mid new : List ℕ) → i < length xs
    → mid ≡ old ++ flat_map f (take i xs) → new ≡ mid ++ f (get_or xs i d) → new ≡ old ++ flat_map f (take (i + 1) xs)
spelt_more f xs i d old mid new h before more =
    more ∙ ap (λ t. t ++ f (get_or xs i d)) before ∙ flat_map_more f old (take i xs) (get_or xs i d)
    ∙ ap (λ ys. old ++ flat_map f ys) (sym (take_more xs i d h))

-- what begins with bytes that begin with the old ones begins with the old ones
pub begins_more : (old mid new text : List ℕ) → mid ≡ old ++ text → Begins mid new → Begins old new
begins_more old mid new text behind begun = record {
  rest = text ++ begun.rest;
  is = begun.is ∙ ap (λ t. t ++ begun.rest) behind ∙ append_assoc old text begun.rest;
}

-- the text of a natural number, and of the opposite of one
pub entry_digit : (z : ℤ) (n : ℕ) → z ≡ pos n → spell_entry z ≡ codes " " ++ decimal n
entry_digit z n e = rw e refl

pub entry_opposite : (z : ℤ) (n : ℕ) → z ≡ neg_ℤ (pos n) → 0 < n → spell_entry z ≡ codes " -" ++ decimal n
entry_opposite z zero e h = absurd (omega (arith, h))
entry_opposite z (suc n) e h = rw e refl

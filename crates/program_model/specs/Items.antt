-- Items in order: what is read of an input from a place on, a text for each item, and the end.
use Rattle.std.specs.Prelude.{◌≡◌, ℕ, zero, suc, List, [], ◌∷◌, length, Option, Some, None, Result, Ok, Err}
use Rattle.pip_model.specs.Reading.{Fault, Syntax}
use Rattle.program_model.specs.Endings.{Ending, finished, fault_ending}

-- what is read at a place: none is left, an item and the place after it, or the end
abbrev pub ItemAt : Type 0 → Type 0
ItemAt A = Result (Option (A × ℕ)) Ending

-- the fault of a text as an end
abbrev pub or_ending : {A : Type 0} → Result A Fault → Result A Ending
or_ending (Ok x) = Ok x
or_ending (Err e) = Err (fault_ending e)

-- an item that has to be there
abbrev pub needed : {A : Type 0} → List ℕ → Option (A × ℕ) → Result (A × ℕ) Ending
needed bytes None = Err (fault_ending (Syntax (length bytes)))
needed bytes (Some x) = Ok x

-- one item, whatever the input's bytes, and none behind it
abbrev pub one_item : {A : Type 0} → Result A Ending → ℕ → ItemAt A
one_item (Ok x) zero = Ok (Some (x, 1))
one_item (Err e) zero = Err e
one_item r (suc place) = Ok None

-- ---- texts

-- the text of the item that was read, with the place after it
abbrev pub text_with : Result (List ℕ) Ending → ℕ → ItemAt (List ℕ)
text_with (Ok t) after = Ok (Some (t, after))
text_with (Err e) after = Err e

abbrev pub text_of_item : {A : Type 0} → (A → Result (List ℕ) Ending) → ItemAt A → ItemAt (List ℕ)
text_of_item text (Ok None) = Ok None
text_of_item text (Ok (Some x)) = text_with (text x.0) x.1
text_of_item text (Err e) = Err e

-- ---- in order

module _ {A : Type 0} (read : ℕ → ItemAt A) (IsText : A → List ℕ → Type 0) where
  -- the text is of the item that was read, and the rest holds from the place after it
  abbrev pub Gives : ItemAt A → List ℕ → (ℕ → Type 0) → Type 0
  Gives (Ok None) t Rest = ⊥
  Gives (Ok (Some x)) t Rest = IsText x.0 t × Rest x.1
  Gives (Err f) t Rest = ⊥

  -- the texts are those of the first items from a place on
  abbrev pub FirstItems : ℕ → List (List ℕ) → Type 0
  FirstItems place [] = Unit {0}
  FirstItems place (t ∷ ts) = Gives (read place) t (λ after. FirstItems after ts)

  -- the texts are those of the items from one place on up to another
  abbrev pub FirstItemsTo : ℕ → List (List ℕ) → ℕ → Type 0
  FirstItemsTo place [] there = place ≡ there
  FirstItemsTo place (t ∷ ts) there = Gives (read place) t (λ after. FirstItemsTo after ts there)

module _ {A : Type 0} (read : ℕ → ItemAt A) (IsText : A → List ℕ → Type 0) (IsEnd : A → Ending → Type 0) where
  -- no text is left: nothing is read and all is done, or the item is refused
  abbrev pub Ends : ItemAt A → Ending → Type 0
  Ends (Ok None) e = e ≡ finished
  Ends (Ok (Some x)) e = IsEnd x.0 e
  Ends (Err f) e = e ≡ f

  -- the texts of the items from a place on that stand before the first refused one, and the end
  abbrev pub Items : ℕ → List (List ℕ) → Ending → Type 0
  Items place [] e = Ends (read place) e
  Items place (t ∷ ts) e = Gives read IsText (read place) t (λ after. Items after ts e)

-- items that are their own texts, and refuse nothing
abbrev pub IsItself : List ℕ → List ℕ → Type 0
IsItself t s = t ≡ s

abbrev pub NoEnd : List ℕ → Ending → Type 0
NoEnd t e = ⊥

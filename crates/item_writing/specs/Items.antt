-- What is written of the items of an input, in order.
use Rattle.std.specs.Prelude.{◌≡◌, ℕ, ◌<◌, ◌≤◌, List, Option, Some, None, IfSome, Result, Ok, Err, IfOk, IfErr}
use Rattle.std.specs.List.{concat}
use Rattle.std.specs.Io.KnownBytes.{Appends}
use Rattle.pip_outside.specs.Bytes.{AppendsFront}
use Rattle.program_model.specs.Endings as model
use Rattle.program_model.specs.Items.{ItemAt, FirstItems, Items, IsItself, NoEnd}
use Rattle.pip_model.specs.Agreement.{Agrees}
use Rattle.item_writing.specs.Endings.{told, IsOfItem}
use Rattle.item_writing.specs.declared.ending.Ending.{Ending}
use Rattle.item_writing.specs.declared.ending.Ending.TheVariants as ending

-- what is found, as the definitions see it, with the place after it, or none
abbrev pub found_by : {A B : Type 0} → (A → B) → Option (A × ℕ) → Option (B × ℕ)
found_by seen None = None
found_by seen (Some x) = Some (seen x.0, x.1)

-- this text is the one that is wanted, or the refusal is its end; nothing is said of want of memory
abbrev pub IsTextOfItem : Result (List ℕ) model.Ending → Result (Unit {0}) Ending → List ℕ → Type 0
IsTextOfItem wanted (Ok u) t = wanted ≡ Ok t
IsTextOfItem wanted (Err e) t = IfSome (told e) (λ f. wanted ≡ Err f)

-- the same of the item at a place
abbrev pub IsTextAt : ItemAt (List ℕ) → Result (Option ℕ) Ending → List ℕ → Type 0
IsTextAt wanted (Ok (Some after)) t = wanted ≡ Ok (Some (t, after))
IsTextAt wanted (Ok None) t = wanted ≡ Ok None
IsTextAt wanted (Err e) t = IfSome (told e) (λ f. wanted ≡ Err f)

-- a place behind this one, the last at most
abbrev pub IsBehind : ℕ → ℕ → ℕ → Type 0
IsBehind at last after = (at < after) × (after ≤ last)

-- What is read at a place is what the definition reads there, or its end, and the place behind it is behind this one.
pub record Finds {A C : Type 0} (seen : A × ℕ → C) (Is : A → Type 0) (wanted : Result C model.Ending) (at last : ℕ)
    (found : Result (A × ℕ) Ending) : Type 0 where
  pub agrees : Agrees seen told found wanted
  pub own : IfErr found IsOfItem
  pub item : IfOk found (λ x. Is x.0)
  pub after : IfOk found (λ x. IsBehind at last x.1)

-- the same of an item, or of none
pub record FindsItem {A B : Type 0} (seen : A → B) (Is : A → Type 0) (wanted : ItemAt B) (at last : ℕ)
    (found : Result (Option (A × ℕ)) Ending) : Type 0 where
  pub agrees : Agrees (found_by seen) told found wanted
  pub own : IfErr found IsOfItem
  pub item : IfOk found (λ o. IfSome o (λ x. Is x.0))
  pub after : IfOk found (λ o. IfSome o (λ x. IsBehind at last x.1))

-- the bytes gained are such texts, whole and in order
pub record Gained (Are : List (List ℕ) → Type 0) (before after : Option (List ℕ)) : Type 0 where
  pub texts : List (List ℕ)
  pub are : Are texts
  pub gained : Appends before after (concat texts)

-- or a front of them
pub record GainedFront (Are : List (List ℕ) → Type 0) (before after : Option (List ℕ)) : Type 0 where
  pub texts : List (List ℕ)
  pub are : Are texts
  pub gained : AppendsFront before after (concat texts)

module _ (First : List (List ℕ) → Type 0) (Whole : List (List ℕ) → model.Ending → Type 0)
    (before after : Option (List ℕ)) where
  -- all texts of an input that has this end, or first texts where memory was refused
  abbrev pub WritesTill : Option model.Ending → Type 0
  WritesTill (Some e) = Gained (λ ts. Whole ts e) before after
  WritesTill None = Gained First before after

  -- or a front of first texts where a write failed
  abbrev pub Writes : Result (Unit {0}) Ending → Type 0
  Writes (Ok u) = WritesTill (Some model.finished)
  Writes (Err ending.WriteFault) = GainedFront First before after
  Writes (Err e) = WritesTill (told e)

-- the items whose texts are these
abbrev pub WritesItems : (ℕ → ItemAt (List ℕ)) → Option (List ℕ) → Option (List ℕ) → Result (Unit {0}) Ending → Type 0
WritesItems text before after result =
    Writes (FirstItems text IsItself 0) (Items text IsItself NoEnd 0) before after result

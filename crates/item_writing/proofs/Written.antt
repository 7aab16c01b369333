-- What the loop over the items has written so far, and what it is at each of its ends.
use Rattle.item_writing.proofs.Words.{◌≡◌, refl, sym, subst, ◌∙◌, ap, ℕ, List, [], ◌∷◌, ◌++◌, Option, Some, None, Appends-nil, Appends-trans, append-nil, Ok, Err, IfSome, concat, Appends, AppendsFront, Ending, finished, ItemAt, Ends, FirstItems, FirstItemsTo, Items, IsItself, NoEnd, first_items-more, first_items-first, first_items-end, told, IsOfItem, Gained, GainedFront, WritesTill, Writes}
use Rattle.std.proofs.lemmas.List.Folds.{concat-append}
use Rattle.pip_outside.proofs.Parts.{front_after}
use Rattle.item_writing.specs.declared.ending.Ending.{Ending as Refused}
use Rattle.item_writing.specs.declared.ending.Ending.TheVariants as ending

concat-more : (ts : List (List ℕ)) (t : List ℕ) → concat (ts ++ t ∷ []) ≡ concat ts ++ t
concat-more ts t = concat-append ts (t ∷ []) ∙ ap (λ s. concat ts ++ s) (append-nil t)

module _ (text : ℕ → ItemAt (List ℕ)) where
  -- texts that lead from the first item to a place
  abbrev pub LeadTo : ℕ → List (List ℕ) → Type 0
  LeadTo at ts = FirstItemsTo text IsItself 0 ts at

  abbrev pub First : List (List ℕ) → Type 0
  First ts = FirstItems text IsItself 0 ts

  abbrev pub Whole : List (List ℕ) → Ending → Type 0
  Whole ts e = Items text IsItself NoEnd 0 ts e

  pub nothing : (a : Option (List ℕ)) → Gained (LeadTo 0) a a
  nothing a = record { texts = []; are = refl; gained = Appends-nil a }

  -- one text more
  pub one_more : (a b c : Option (List ℕ)) (at after : ℕ) (t : List ℕ) → Gained (LeadTo at) a b → text at ≡ Ok (Some (t, after)) → Appends b c t → Gained (LeadTo after) a c
  one_more a b c at after t h e k = record {
    texts = h.texts ++ t ∷ [];
    are = first_items-more text IsItself h.texts 0 at after t t h.are e refl;
    gained = subst (Appends a c) (sym (concat-more h.texts t)) (Appends-trans a b c (concat h.texts) t h.gained k);
  }

  -- a front of the next text
  pub front_of_one : (a b c : Option (List ℕ)) (at after : ℕ) (t : List ℕ) → Gained (LeadTo at) a b → text at ≡ Ok (Some (t, after)) → AppendsFront b c t → GainedFront First a c
  front_of_one a b c at after t h e k = record {
    texts = h.texts ++ t ∷ [];
    are = first_items-first text IsItself (h.texts ++ t ∷ []) 0 after (first_items-more text IsItself h.texts 0 at after t t h.are e refl);
    gained = subst (AppendsFront a c) (sym (concat-more h.texts t)) (front_after a b c (concat h.texts) t h.gained k);
  }

  -- no item is left, or the next one is refused
  pub at_end : (a b : Option (List ℕ)) (at : ℕ) (e : Ending) → Gained (LeadTo at) a b → Ends text IsItself NoEnd (text at) e → Gained (λ ts. Whole ts e) a b
  at_end a b at e h k = record { texts = h.texts; are = first_items-end text IsItself NoEnd h.texts 0 at e h.are k; gained = h.gained }

  pub at_none : (a b : Option (List ℕ)) (at : ℕ) → Gained (LeadTo at) a b → text at ≡ Ok None → Gained (λ ts. Whole ts finished) a b
  at_none a b at h e = at_end a b at finished h (subst (λ r. Ends text IsItself NoEnd r finished) (sym e) refl)

  till : (a b : Option (List ℕ)) (at : ℕ) (o : Option Ending) → Gained (LeadTo at) a b → IfSome o (λ f. text at ≡ Err f) → WritesTill First Whole a b o
  till a b at None h k = record { texts = h.texts; are = first_items-first text IsItself h.texts 0 at h.are; gained = h.gained }
  till a b at (Some f) h e = at_end a b at f h (subst (λ r. Ends text IsItself NoEnd r f) (sym e) refl)

  pub at_refusal : (a b : Option (List ℕ)) (at : ℕ) (e : Refused) → Gained (LeadTo at) a b → IsOfItem e → IfSome (told e) (λ f. text at ≡ Err f) → Writes First Whole a b (Err e)
  at_refusal a b at ending.WriteFault h own k = absurd own
  at_refusal a b at e h own k = till a b at (told e) h k

-- What is written for an input, and how it ends, in one computation: a row that says them by `IsOutput` computes the
-- items once for each text. The two say the same of texts and an end.
use Rattle.std.proofs.Common.{◌≡◌, refl, sym, subst, ℕ, zero, suc, List, [], ◌∷◌}
use Rattle.std.specs.Prelude.{Option, Some, None, Ok, Err, length, IfSome}
use Rattle.program_model.specs.Endings.{Ending, finished}
use Rattle.program_model.specs.Items.{ItemAt, Gives, Ends, Items, IsItself, NoEnd}
use Rattle.program_model.specs.Commands.{Command, item_text}
use Rattle.program_model.specs.Output.{IsOutput}

abbrev pub Written : Type 0
Written = Option (List (List ℕ) × Ending)

abbrev pub put : List ℕ → Written → Written
put t None = None
put t (Some x) = Some (t ∷ x.0, x.1)

abbrev pub after_item : (ℕ → Written) → ItemAt (List ℕ) → Written
after_item rest (Ok None) = Some ([], finished)
after_item rest (Ok (Some x)) = put x.0 (rest x.1)
after_item rest (Err e) = Some ([], e)

-- the texts from a place on, of fewer items than n, and the end
abbrev pub written : (ℕ → ItemAt (List ℕ)) → ℕ → ℕ → Written
written read zero place = None
written read (suc n) place = after_item (written read n) (read place)

abbrev pub Writes : Command → List ℕ → List (List ℕ) → Ending → Type 0
Writes c bytes ts e = written (item_text c bytes) (suc (length ts)) 0 ≡ Some (ts, e)

module _ (read : ℕ → ItemAt (List ℕ)) where
  abbrev IsWritten : ℕ → Written → Type 0
  IsWritten place w = IfSome w (λ x. Items read IsItself NoEnd place x.0 x.1)

  behind : (place : ℕ) (x : List ℕ × ℕ) → read place ≡ Ok (Some x) → (w : Written) → IsWritten x.1 w → IsWritten place (put x.0 w)
  behind place x is None h = tt
  behind place x is (Some y) h = subst (λ s. Gives read IsItself s x.0 (λ a. Items read IsItself NoEnd a y.0 y.1)) (sym is) (refl, h)

  here : (place : ℕ) (rest : ℕ → Written) → ((a : ℕ) → IsWritten a (rest a)) → (r : ItemAt (List ℕ)) → read place ≡ r → IsWritten place (after_item rest r)
  here place rest hold (Ok None) is = subst (λ s. Ends read IsItself NoEnd s finished) (sym is) refl
  here place rest hold (Ok (Some x)) is = behind place x is (rest x.1) (hold x.1)
  here place rest hold (Err e) is = subst (λ s. Ends read IsItself NoEnd s e) (sym is) refl

  written-holds : (n place : ℕ) → IsWritten place (written read n place)
  written-holds zero place = tt
  written-holds (suc n) place = here place (written read n) (written-holds n) (read place) refl

pub written_output : (c : Command) (bytes : List ℕ) (ts : List (List ℕ)) (e : Ending) → Writes c bytes ts e → IsOutput c bytes ts e
written_output c bytes ts e h = subst (IsWritten (item_text c bytes) 0) h (written-holds (item_text c bytes) (suc (length ts)) 0)

-- When the source is called by a command that reads its input whole, and where no write fails.
use Rattle.item_writing.proofs.Words.{◌≡◌, refl, sym, ◌∙◌, ℕ, inl, arith, true, false, List, Option, Some, None, IfSome, IsErrOf, Result, Command, reads_by_problem, StopsAtRefused, FailsInTime, TakesInputAtMost}
use Rattle.item_writing.specs.declared.ending.Ending.{Ending as Refused}
use Rattle.item_writing.specs.declared.ending.Ending.TheVariants as ending

pub none-taken : (o : Option (List ℕ)) (i : ℕ) → TakesInputAtMost o i i
none-taken None i = tt
none-taken (Some bytes) i = omega arith

module _ {S : Type 0} (Calls : S → S → Type 0) (taken : S → ℕ) where
  pub stops-start : (s : S) (c : Command) (o : Option (List ℕ)) → IfSome o (StopsAtRefused Calls taken s s c)
  stops-start s c None = tt
  stops-start s c (Some bytes) = λ native place n r e. inl refl

  -- a command that reads its input whole
  pub stops-whole : (s t : S) (c : Command) (o : Option (List ℕ)) → reads_by_problem c ≡ false → IfSome o (StopsAtRefused Calls taken s t c)
  stops-whole s t c None whole = tt
  stops-whole s t c (Some bytes) whole = λ native. absurd (let both : true ≡ false = sym native ∙ whole in cc)

  -- a run whose write does not fail
  pub in_time-not : (s t : S) (a b : Option (List ℕ)) (r : Result (Unit {0}) Refused) (c : Command) (o : Option (List ℕ)) → ¬ IsErrOf r ending.WriteFault → IfSome o (FailsInTime Calls taken s t a b r c)
  in_time-not s t a b r c None other = tt
  in_time-not s t a b r c (Some bytes) other = λ native failed. absurd (other failed)

  pub in_time-whole : (s t : S) (a b : Option (List ℕ)) (r : Result (Unit {0}) Refused) (c : Command) (o : Option (List ℕ)) → reads_by_problem c ≡ false → IfSome o (FailsInTime Calls taken s t a b r c)
  in_time-whole s t a b r c None whole = tt
  in_time-whole s t a b r c (Some bytes) whole = λ native failed. absurd (let both : true ≡ false = sym native ∙ whole in cc)

-- What is written of the items of an input that was read is its output.
use Rattle.item_writing.proofs.Words.{◌≡◌, refl, sym, subst, inl, inr, ℕ, ◌≤◌, Bool, true, false, List, [], length, Option, Some, None, Result, Ok, Err, IfSome, IfErr, MatchBool, Vec, ⊤, if◌then◌else◌, Global, Keeps, most_input_bytes, Command, way, item_text, IsOfItem, ReadsInput, IsOfInput, WritesItems, WritesOutput, TakesInput, bytes_read, reads_by_problem, WritesOf}
use Rattle.item_writing.specs.declared.ending.Ending.{Ending}
use Rattle.item_writing.specs.declared.ending.Ending.TheVariants as ending

-- an item's refusal, or a failed write
abbrev pub IsOwn : Result (Unit {0}) Ending → Type 0
IsOwn r = IfErr r (λ e. ¬ (e ≡ ending.WriteFault) → IsOfItem e)

kept : (a : Option (List ℕ)) → Keeps a a
kept None = tt
kept (Some xs) = refl

-- what is written of the items is the output where the input is no longer than its limit
pub written : (c : Command) (bytes : List ℕ) (a b : Option (List ℕ)) (r : Result (Unit {0}) Ending) → (TakesInput c → length bytes ≤ most_input_bytes)
    → IsOwn r → WritesItems (item_text c bytes) a b r → WritesOutput c bytes a b r
written c bytes a b (Ok u) few own k = (few, k)
written c bytes a b (Err ending.Usage) few own k = absurd (own (λ p. cc))
written c bytes a b (Err ending.ReadFault) few own k = absurd (own (λ p. cc))
written c bytes a b (Err ending.WriteFault) few own k = (few, k)
written c bytes a b (Err ending.WantOfMemory) few own k = inr (few, k)
written c bytes a b (Err ending.InputTooLong) few own k = absurd (own (λ p. cc))
written c bytes a b (Err e) few own k = (few, k)

-- ---- of a command that reads its whole input first

-- what it reads is the input
pub all_read : (b : Bool) → MatchBool b ⊤ ⊥ → (left : Option (List ℕ)) → (if b then left else Some []) ≡ left
all_read true takes left = refl
all_read false takes left = absurd takes

where_false : (b : Bool) (P Q : Type 0) → b ≡ false → Q → MatchBool b P Q
where_false true P Q e q = absurd cc
where_false false P Q e q = q

module _ (c : Command) (takes : TakesInput c) (whole : reads_by_problem c ≡ false) (n : ℕ) where
  as_read : (left a b : Option (List ℕ)) (r : Result (Unit {0}) Ending)
      → IfSome left (λ bytes. WritesOf c bytes n a b r) → IfSome (bytes_read c left) (λ bytes. WritesOf c bytes n a b r)
  as_read left a b r h = subst (λ o. IfSome o (λ bytes. WritesOf c bytes n a b r)) (sym (all_read (way c).takes_input takes left)) h

  pub output-read : (left : Option (List ℕ)) (input : Vec ℕ Global) (a b : Option (List ℕ)) (r : Result (Unit {0}) Ending)
      → IfSome left (ReadsInput (Ok input)) → IsOwn r → WritesItems (item_text c input.items) a b r
      → IfSome (bytes_read c left) (λ bytes. WritesOf c bytes n a b r)
  output-read left input a b r h own k = as_read left a b r (go left h)
    where
      go : (o : Option (List ℕ)) → IfSome o (ReadsInput (Ok input)) → IfSome o (λ bytes. WritesOf c bytes n a b r)
      go None h = tt
      go (Some bytes) h =
          where_false (reads_by_problem c) _ _ whole
          (written c bytes a b r (λ _. h.1) own (subst (λ (xs : List ℕ). WritesItems (item_text c xs) a b r) h.0 k))

  -- nothing is written where the input is not read
  unread : (bytes : List ℕ) (a : Option (List ℕ)) (e : Ending) → IsOfInput (Err e) → ReadsInput (Err e) bytes
      → WritesOutput c bytes a a (Err e)
  unread bytes a ending.ReadFault own h = kept a
  unread bytes a ending.InputTooLong own h = ((takes, h), kept a)
  unread bytes a ending.WantOfMemory own h = inl (kept a)
  unread bytes a e own h = absurd own

  pub output-unread : (left a : Option (List ℕ)) (e : Ending) → IsOfInput (Err e) → IfSome left (ReadsInput (Err e))
      → IfSome (bytes_read c left) (λ bytes. WritesOf c bytes n a a (Err e))
  output-unread left a e own h = as_read left a a (Err e) (go left h)
    where
      go : (o : Option (List ℕ)) → IfSome o (ReadsInput (Err e)) → IfSome o (λ bytes. WritesOf c bytes n a a (Err e))
      go None h = tt
      go (Some bytes) h = where_false (reads_by_problem c) _ _ whole (unread bytes a e own h)

-- A run whose words give no command, or that has no memory for them: nothing is read and nothing is written.
use Rattle.pip_cli.proofs.Words.{◌≡◌, refl, ℕ, arith, inl, true, false, Bool, MatchBool, List, [], Option, Some, None, Err, IfSome, Command, IsRead, WritesOutput, bytes_read, WritesByProblem, WritesOf, Keeps, IsWordsEnding, WhereTold}
use Rattle.std.specs.Prelude.{IsErrOf}
use Rattle.std.proofs.KnownBytes.{Appends-nil}
use Rattle.pip_words.specs.declared.refusal.WordsRefusal.{WordsRefusal}
use Rattle.pip_words.specs.declared.refusal.WordsRefusal.TheVariants as refusal
use Rattle.item_writing.specs.InputEndings.{words_ending}
use Rattle.item_writing.specs.Outputs.{TakesInput, EndsByFaults}
use Rattle.item_writing.specs.ByProblem.{reads_by_problem, StopsAtRefused, FailsInTime}
use Rattle.item_writing.proofs.Calls.{stops-start, in_time-not}
use Rattle.item_writing.specs.declared.ending.Ending.TheVariants as ending

-- ---- the ending

pub words-usage : {P : Type 0} (e : WordsRefusal) → (e ≡ refusal.Usage → P) → IsErrOf {T = Unit {0}} (Err (words_ending e)) ending.Usage → P
words-usage refusal.Usage f h = f refl
words-usage refusal.WantOfMemory f h = absurd cc

pub words-ending : {P : Type 0} (e : WordsRefusal) → P → IsWordsEnding (Err (words_ending e))
words-ending refusal.Usage p = tt
words-ending refusal.WantOfMemory p = tt

pub words-not_read : {P Q : Type 0} (e : WordsRefusal) → P → IsRead (Err (words_ending e)) → Q
words-not_read refusal.Usage p h = absurd h
words-not_read refusal.WantOfMemory p h = absurd h

pub words-no_fault : (e : WordsRefusal) → (¬ IsErrOf {T = Unit {0}} (Err (words_ending e)) ending.ReadFault) × (¬ IsErrOf {T = Unit {0}} (Err (words_ending e)) ending.WriteFault)
words-no_fault refusal.Usage = (λ h. cc, λ h. cc)
words-no_fault refusal.WantOfMemory = (λ h. cc, λ h. cc)

pub words-faults : (e : WordsRefusal) (r w : ℕ) → EndsByFaults {T = Unit {0}} r r w w (Err (words_ending e))
words-faults e r w =
    let no = words-no_fault e in
    record { read_fault = λ h. absurd (no.0 h); write_fault = λ h. absurd (no.1 h); read_quiet = λ _. refl; write_quiet = λ _. refl }

-- ---- the source is not called

module _ {S : Type 0} (Calls : S → S → Type 0) (taken : S → ℕ) (s : S) where
  pub words-spared : (o : Option Command) → IfSome o (λ c. ¬ TakesInput c → s ≡ s)
  words-spared None = tt
  words-spared (Some c) = λ none. refl

  pub words-asked : (o : Option Command) (left : Option (List ℕ)) → WhereTold o left (StopsAtRefused Calls taken s s)
  words-asked None left = tt
  words-asked (Some c) left = stops-start Calls taken s c (bytes_read c left)

  pub words-in_time : (e : WordsRefusal) (o : Option Command) (left a : Option (List ℕ)) → WhereTold o left (FailsInTime Calls taken s s a a (Err (words_ending e)))
  words-in_time e None left a = tt
  words-in_time e (Some c) left a = in_time-not Calls taken s s a a (Err (words_ending e)) c (bytes_read c left) (words-no_fault e).1

-- ---- what is written

kept : (a : Option (List ℕ)) → Keeps a a
kept None = tt
kept (Some bytes) = refl

by_kind : (b : Bool) (P Q : Type 0) → P → Q → MatchBool b P Q
by_kind true P Q p q = p
by_kind false P Q p q = q

memory-output : (c : Command) (bytes : List ℕ) (n : ℕ) (a : Option (List ℕ)) → n ≡ 0 → WritesOf c bytes n a a (Err ending.WantOfMemory)
memory-output c bytes n a zero =
    by_kind (reads_by_problem c) (WritesByProblem c bytes n a a (Err ending.WantOfMemory)) (WritesOutput c bytes a a (Err ending.WantOfMemory))
    (record { texts = []; are = record { place = 0; texts = refl; spared = λ q e. omega (arith, zero) }; gained = Appends-nil a })
    (inl (kept a))

memory-told : (c : Command) (told a : Option (List ℕ)) (n : ℕ) → n ≡ 0 → IfSome told (λ bytes. WritesOf c bytes n a a (Err ending.WantOfMemory))
memory-told c None a n zero = tt
memory-told c (Some bytes) a n zero = memory-output c bytes n a zero

pub words-output : (o : Option Command) (e : WordsRefusal) → (e ≡ refusal.Usage → o ≡ None) → (left a : Option (List ℕ)) (n : ℕ) → n ≡ 0 → WhereTold o left (λ c bytes. WritesOf c bytes n a a (Err (words_ending e)))
words-output None e none left a n zero = tt
words-output (Some c) refusal.Usage none left a n zero = absurd (let both = none refl in cc)
words-output (Some c) refusal.WantOfMemory none left a n zero = memory-told c (bytes_read c left) a n zero

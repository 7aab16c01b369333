-- How a run of any command ends, also of the one that reads problem by problem, by its status.
use Rattle.pip_cli.proofs.Words.{◌≡◌, ◌≢◌, ◌⊎◌, inl, inr, refl, sym, subst, ◌∙◌, arith, ℕ, ◌<◌, List, [], Option, Some, None, Bool, true, false, not, length, Result, Ok, Err, IfSome, MatchBool, most_input_bytes, Ending, finished, Command, SolveOptions, Solve, way, item_text, IsFirstOutput, MayBeAsked, output-right, first_output-right, told, or_memory, Gained, IsRead, IsWithin, WritesOutput, bytes_read, AreEnded, AreBefore, AreAll, ReadsWhole, WritesTillEnd, WritesByProblem, WritesOf, AreFirst, AreFirstEnded, AreFirstBefore, IsOfItems, EndsWith, EndsByProblem, StopsAtLimit, HasEndedByProblem, EndsAs, AnswersRight, Completes, IsShort, IsAfterInput, IsWordsEnding, WhereTold}
use Rattle.program_model.specs.Items.{IsItself}
use Rattle.headline.proofs.FirstItems.{first_items-first}
use Rattle.item_writing.specs.declared.ending.Ending.{Ending as Refused}
use Rattle.item_writing.specs.declared.ending.Ending.TheVariants as ending
use Rattle.item_writing.proofs.Outputs.{all_read}
use Rattle.pip_cli.proofs.Asked.{IsAsked}
use Rattle.item_writing.specs.ByProblem.{WritesInTime, FailsInTime, reads_by_problem}
use Rattle.pip_cli.proofs.Ends.{fault-by, gained-as, front-as, IsItemEnd, item_end, ending_from, ends-by, right-by, completes-by}

module _ (o : SolveOptions) (asked : IsAsked (Solve o)) (bytes : List ℕ) (n : ℕ) (a b : Option (List ℕ)) where
  -- what may be asked of problems is the same of each input
  may_be : MayBeAsked (Solve o) bytes
  may_be = asked [] (λ _. omega arith)

  right_first : (ts : List (List ℕ)) → IsFirstOutput (Solve o) bytes ts → AreFirst (Solve o) bytes ts
  right_first ts h = (h, first_output-right (Solve o) bytes may_be ts h)

  right_ended : (m : ℕ) (ts : List (List ℕ)) → AreEnded (Solve o) bytes m ts → AreFirstEnded (Solve o) bytes m ts
  right_ended m ts h = (h, first_output-right (Solve o) bytes may_be ts (first_items-first (item_text (Solve o) bytes) IsItself ts 0 h.place h.texts))

  right_before : (ts : List (List ℕ)) → AreBefore (Solve o) bytes n ts → AreFirstBefore (Solve o) bytes n ts
  right_before ts h = (h, first_output-right (Solve o) bytes may_be ts (first_items-first (item_text (Solve o) bytes) IsItself ts 0 h.place h.texts))

  module _ (Noted : Ending → Type 0) (s : ℕ) where
    end_of : (e : Ending) → s ≡ e.status → Noted e → Gained (AreAll (Solve o) bytes n e) a b → EndsByProblem (Solve o) bytes n a b Noted s
    end_of e k w h = record {
      texts = h.texts;
      ending = e;
      all = h.are;
      right = output-right (Solve o) bytes may_be h.texts e h.are.output;
      written = h.gained;
      status_is = k;
      noted = w;
    }

    -- the status is that of no fault and no want of memory
    all_ended : IsOfItems s → EndsByProblem (Solve o) bytes n a b Noted s ⊎ StopsAtLimit (Solve o) bytes n a b Noted s → HasEndedByProblem (Solve o) bytes n a b Noted s
    all_ended p end = record { end = λ _. end; read_fault = λ q. absurd (p.0 q); write_fault = λ q. absurd (p.1 q); want_of_memory = λ q. absurd (p.2 q) }

    item_ended : (e : Option Ending) → IsItemEnd e → s ≡ (or_memory e).status → Noted (or_memory e) → WritesTillEnd (Solve o) bytes n a b e → HasEndedByProblem (Solve o) bytes n a b Noted s
    item_ended None end k w h = record {
      end = λ p. absurd (p.2 k);
      read_fault = λ p. absurd (omega arith);
      write_fault = λ p. absurd (omega arith);
      want_of_memory = λ p. gained-as _ _ a b right_before h;
    }
    item_ended (Some e) end k w h =
        all_ended (λ p. end.no_read_fault (sym k ∙ p), λ p. end.no_write_fault (sym k ∙ p), λ p. end.no_memory (sym k ∙ p)) (inl (end_of e k w h))

    ended_by : (r : Result (Unit {0}) Refused) → s ≡ (ending_from r).status → Noted (ending_from r) → WritesByProblem (Solve o) bytes n a b r → HasEndedByProblem (Solve o) bytes n a b Noted s
    ended_by (Ok u) k w h = all_ended (omega arith, omega arith, omega arith) (inl (end_of finished k w h))
    ended_by (Err ending.Usage) k w h = absurd h
    ended_by (Err ending.ReadFault) k w h = record {
      end = λ p. absurd (p.0 k);
      read_fault = λ p. gained-as _ _ a b (right_ended n) h;
      write_fault = λ p. absurd (omega arith);
      want_of_memory = λ p. absurd (omega arith);
    }
    ended_by (Err ending.WriteFault) k w h = record {
      end = λ p. absurd (p.1 k);
      read_fault = λ p. absurd (omega arith);
      write_fault = λ p. front-as _ _ a b right_first h;
      want_of_memory = λ p. absurd (omega arith);
    }
    ended_by (Err ending.InputTooLong) k w h =
        all_ended (omega arith, omega arith, omega arith) (inr (record { status_is = k; long = h.0; noted = w; written = gained-as _ _ a b (right_ended most_input_bytes) h.1 }))
    ended_by (Err e) k w h = item_ended (told e) (item_end e tt) k w h

-- ---- of any command

either : (t : Bool) (X Y Z : Type 0) → (X → Z) → (Y → Z) → MatchBool t X Y → Z
either true X Y Z f g h = f h
either false X Y Z f g h = g h

each : (t : Bool) (X Y V W : Type 0) → (X → V) → (Y → W) → MatchBool t X Y → MatchBool t V W
each true X Y V W f g h = f h
each false X Y V W f g h = g h

ends-of : (c : Command) → IsAsked c → (bytes : List ℕ) (n : ℕ) (a b : Option (List ℕ)) (Noted : Ending → Type 0) (s : ℕ) (r : Result (Unit {0}) Refused) → s ≡ (ending_from r).status → Noted (ending_from r) → WritesOf c bytes n a b r → EndsAs c bytes n a b Noted s
ends-of (Solve o) asked bytes n a b Noted s r k w h =
    each (not o.polylib) _ _ _ _ (ended_by o asked bytes n a b Noted s r k w) (ends-by (Solve o) asked bytes a b Noted s r k w) h
ends-of c asked bytes n a b Noted s r k w h = ends-by c asked bytes a b Noted s r k w h

-- how a run of any command over an input within its limit ends by its items
whole-of : (c : Command) (bytes : List ℕ) (n : ℕ) (a b : Option (List ℕ)) (Noted : Ending → Type 0) (s : ℕ) → EndsAs c bytes n a b Noted s → IsWithin c bytes → IsOfItems s → EndsWith c bytes a b Noted s
whole-of (Solve o) bytes n a b Noted s h within p = either (not o.polylib) _ _ _ (λ x. by_problem (x.end p)) (λ x. x.whole within p) h
  where
    by_problem : EndsByProblem (Solve o) bytes n a b Noted s ⊎ StopsAtLimit (Solve o) bytes n a b Noted s → EndsWith (Solve o) bytes a b Noted s
    by_problem (inl e) = record { texts = e.texts; ending = e.ending; output = e.all.output; written = e.written; status_is = e.status_is; noted = e.noted }
    by_problem (inr e) = let short = within tt in absurd (omega (arith, short, e.long))
whole-of c bytes n a b Noted s h within p = h.whole within p

-- ---- where the command and the input are told

where_bytes : (P Q : List ℕ → Type 0) (input : Option (List ℕ)) → ((bytes : List ℕ) → P bytes → Q bytes)
    → IfSome input P → IfSome input Q
where_bytes P Q None f h = tt
where_bytes P Q (Some bytes) f h = f bytes h

module _ (o : Option Command) (asked : IfSome o IsAsked) (left : Option (List ℕ)) (n : ℕ) (a b : Option (List ℕ)) (r : Result (Unit {0}) Refused) (s : ℕ) (k : s ≡ (ending_from r).status) (h : WhereTold o left (λ c bytes. WritesOf c bytes n a b r)) where
  where_told : (Q : Command → List ℕ → Type 0) → ((c : Command) (bytes : List ℕ) → IsAsked c → WritesOf c bytes n a b r → Q c bytes) → WhereTold o left Q
  where_told Q f = go o asked h
    where
      go : (o : Option Command) → IfSome o IsAsked → WhereTold o left (λ c bytes. WritesOf c bytes n a b r) → WhereTold o left Q
      go None asked h = tt
      go (Some c) asked h = where_bytes (λ bytes. WritesOf c bytes n a b r) (Q c) (bytes_read c left) (λ bytes. f c bytes asked) h

  pub told-ends : (Noted : Ending → Type 0) → Noted (ending_from r) → WhereTold o left (λ c bytes. EndsAs c bytes n a b Noted s)
  told-ends Noted w = where_told (λ c bytes. EndsAs c bytes n a b Noted s) (λ c bytes asked. ends-of c asked bytes n a b Noted s r k w)

  whole-told : (c : Command) (bytes : List ℕ) → IsAsked c → WritesOf c bytes n a b r → IsWithin c bytes → IsOfItems s → EndsWith c bytes a b (λ _. Unit {0}) s
  whole-told c bytes asked h = whole-of c bytes n a b (λ _. Unit {0}) s (ends-of c asked bytes n a b (λ _. Unit {0}) s r k tt h)

  pub told-right : WhereTold o left (λ c bytes. AnswersRight c bytes a b s)
  told-right = where_told (λ c bytes. AnswersRight c bytes a b s) (λ c bytes asked h. right-by c bytes a b (λ _. Unit {0}) s (whole-told c bytes asked h) asked)

  pub told-complete : s ≢ 6 → s ≢ 7 → WhereTold o left (λ c bytes. Completes c bytes a b s)
  told-complete p q = where_told (λ c bytes. Completes c bytes a b s) (λ c bytes asked h. completes-by c bytes a b (λ _. Unit {0}) s (whole-told c bytes asked h) p q)

-- a write that failed was made in time
pub told-in_time : {S : Type 0} (Calls : S → S → Type 0) (taken : S → ℕ) (old new : S) (a b : Option (List ℕ)) (r : Result (Unit {0}) Refused) (s : ℕ) → s ≡ (ending_from r).status → (o : Option Command) (left : Option (List ℕ)) → WhereTold o left (FailsInTime Calls taken old new a b r) → WhereTold o left (λ c bytes. s ≡ 7 → reads_by_problem c ≡ true → WritesInTime Calls taken old new a b c bytes)
told-in_time Calls taken old new a b r s k None left h = tt
told-in_time Calls taken old new a b r s k (Some c) left h =
    where_bytes (FailsInTime Calls taken old new a b r c) (λ bytes. s ≡ 7 → reads_by_problem c ≡ true → WritesInTime Calls taken old new a b c bytes) (bytes_read c left) (λ bytes f failed by. f by ((fault-by r s k).1 failed)) h

-- ---- whether the whole input was read

-- a command that reads its input whole
long-whole : (c : Command) → ReadsWhole c → (bytes : List ℕ) (n : ℕ) (a b : Option (List ℕ)) → IfSome (bytes_read c (Some bytes)) (λ xs. WritesOf c xs n a b (Err ending.InputTooLong)) → most_input_bytes < length bytes
long-whole c whole bytes n a b h =
    let k = subst (λ o. IfSome o (λ xs. WritesOf c xs n a b (Err ending.InputTooLong))) (all_read (way c).takes_input whole.0 (Some bytes)) h in
    let w = subst (λ t. MatchBool t (WritesByProblem c bytes n a b (Err ending.InputTooLong)) (WritesOutput c bytes a b (Err ending.InputTooLong))) whole.1 k in
    w.0.1

module _ (n : ℕ) (a b : Option (List ℕ)) where
  too_long : (o : Option Command) (left : Option (List ℕ)) → IsShort left → (o ≡ None → IsWordsEnding (Err ending.InputTooLong)) → IfSome o ReadsWhole → WhereTold o left (λ c bytes. WritesOf c bytes n a b (Err ending.InputTooLong)) → ⊥
  too_long None left short refused whole h = refused refl
  too_long (Some c) None short refused whole h = short
  too_long (Some c) (Some bytes) short refused whole h = let long = long-whole c whole bytes n a b h in omega (arith, short, long)

  pub is-read : (o : Option Command) (left : Option (List ℕ)) (r : Result (Unit {0}) Refused) (s : ℕ) → s ≡ (ending_from r).status → (o ≡ None → IsWordsEnding r) → IfSome o ReadsWhole → WhereTold o left (λ c bytes. WritesOf c bytes n a b r) → IsAfterInput left s → IsRead r
  is-read o left (Ok u) s k refused whole h after = tt
  is-read o left (Err ending.Usage) s k refused whole h after = absurd (after.0 k)
  is-read o left (Err ending.ReadFault) s k refused whole h after = absurd (after.1 k)
  is-read o left (Err ending.WantOfMemory) s k refused whole h after = absurd (after.2 k)
  is-read o left (Err ending.InputTooLong) s k refused whole h after = absurd (too_long o left (after.3 k) refused whole h)
  is-read o left (Err e) s k refused whole h after = tt

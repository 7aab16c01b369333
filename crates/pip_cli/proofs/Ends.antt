-- How a run ends, by its status.
use Rattle.pip_cli.proofs.Words.{◌≡◌, ◌≢◌, inl, inr, refl, sym, subst, ◌∙◌, ap, arith, ℕ, ◌≤◌, List, [], Option, Some, None, Result, Ok, Err, option_map, concat, Appends, Keeps, Refusal, Overflow, Ending, finished, fault_ending, refusal_ending, tool_ending, notes_of, Command, IsOutput, IsFirstOutput, output-right, first_output-right, output-unique, told, or_memory, ending_of, IsOfItem, Gained, GainedFront, WritesTill, WritesOutput, IsWithin, IsTooLong, ending_by, GainsLine, IsNoted, AreFirst, IsOfItems, EndsWith, EndsAtLimit, HasEnded, AnswersRight, Completes}
use Rattle.std.proofs.lemmas.Bool.{cases_eq}
use Rattle.std.proofs.lemmas.List.{append-nil}
use Rattle.pip_outside.specs.Bytes.{WritesBytes}
use Rattle.pip_model.specs.Reading.{Fault, TooNested}
use Rattle.pip_problem.specs.Faults.{run_fault, read_fault}
use Rattle.quast_text.specs.Faults.{text_fault}
use Rattle.pip_model.specs.Walks.{ToolRefusal, ByRun}
use Rattle.tree_items.specs.Faults.{tool_fault}
use Rattle.leaf_certificate.specs.Faults.{certificate_fault}
use Rattle.item_writing.specs.declared.ending.Ending.{Ending as Refused}
use Rattle.item_writing.specs.declared.ending.Ending.TheVariants as ending
use Rattle.pip_cli.proofs.Asked.{IsAsked}

-- ---- statuses

-- the status of an item that is refused
pub record IsItemStatus (status : ℕ) : Type 0 where
  pub above_usage : 2 ≤ status
  pub no_read_fault : status ≢ 6
  pub no_write_fault : status ≢ 7
  pub no_memory : status ≢ 8

fault_status : (f : Fault) → IsItemStatus (fault_ending f).status
fault_status TooNested = record { above_usage = omega arith; no_read_fault = omega arith; no_write_fault = omega arith; no_memory = omega arith }
fault_status _ = record { above_usage = omega arith; no_read_fault = omega arith; no_write_fault = omega arith; no_memory = omega arith }

refusal_status : (r : Refusal) → IsItemStatus (refusal_ending r).status
refusal_status Overflow = record { above_usage = omega arith; no_read_fault = omega arith; no_write_fault = omega arith; no_memory = omega arith }
refusal_status _ = record { above_usage = omega arith; no_read_fault = omega arith; no_write_fault = omega arith; no_memory = omega arith }

-- an item's end, none where memory was refused
abbrev pub IsItemEnd : Option Ending → Type 0
IsItemEnd None = Unit {0}
IsItemEnd (Some e) = IsItemStatus e.status

tool_status : (r : ToolRefusal) → IsItemStatus (tool_ending r).status
tool_status (ByRun r) = refusal_status r
tool_status _ = record { above_usage = omega arith; no_read_fault = omega arith; no_write_fault = omega arith; no_memory = omega arith }

told_end : {E : Type 0} (f : E → Ending) (each : (e : E) → IsItemStatus (f e).status) (o : Option E) → IsItemEnd (option_map f o)
told_end f each None = tt
told_end f each (Some e) = each e

-- the same of each refusal of an item
pub item_end : (e : Refused) → IsOfItem e → IsItemEnd (told e)
item_end ending.WantOfMemory own = tt
item_end (ending.Problem e) own = told_end fault_ending fault_status (read_fault e)
item_end (ending.Answer e) own = told_end fault_ending fault_status (text_fault e)
item_end (ending.Certificate e) own = told_end fault_ending fault_status (certificate_fault e)
item_end ending.RationalCertificate own = record { above_usage = omega arith; no_read_fault = omega arith; no_write_fault = omega arith; no_memory = omega arith }
item_end (ending.Rejected s) own = record { above_usage = omega arith; no_read_fault = omega arith; no_write_fault = omega arith; no_memory = omega arith }
item_end (ending.OverflowAt s) own = record { above_usage = omega arith; no_read_fault = omega arith; no_write_fault = omega arith; no_memory = omega arith }
item_end (ending.Run e) own = told_end refusal_ending refusal_status (run_fault e)
item_end (ending.Walk e) own = told_end tool_ending tool_status (tool_fault e)
item_end e own = absurd own

abbrev pub ending_from : Result (Unit {0}) Refused → Ending
ending_from (Ok u) = finished
ending_from (Err e) = ending_of e

-- the status of an item's end, or of want of memory, is that of no fault of the outside
item_not : (o : Option Ending) → IsItemEnd o → (s : ℕ) → s ≡ (or_memory o).status → (s ≢ 6) × (s ≢ 7)
item_not None h s k = (omega arith, omega arith)
item_not (Some e) h s k = (λ p. h.no_read_fault (sym k ∙ p), λ p. h.no_write_fault (sym k ∙ p))

-- 6 is the status of a read fault alone, and 7 that of a write fault
pub fault-by : (r : Result (Unit {0}) Refused) (s : ℕ) → s ≡ (ending_from r).status → (s ≡ 6 → r ≡ Err ending.ReadFault) × (s ≡ 7 → r ≡ Err ending.WriteFault)
fault-by (Ok u) s k = (λ p. absurd (omega arith), λ p. absurd (omega arith))
fault-by (Err ending.Usage) s k = (λ p. absurd (omega arith), λ p. absurd (omega arith))
fault-by (Err ending.ReadFault) s k = (λ p. refl, λ p. absurd (omega arith))
fault-by (Err ending.WriteFault) s k = (λ p. absurd (omega arith), λ p. refl)
fault-by (Err ending.InputTooLong) s k = (λ p. absurd (omega arith), λ p. absurd (omega arith))
fault-by (Err e) s k = let other = item_not (told e) (item_end e tt) s k in (λ p. absurd (other.0 p), λ p. absurd (other.1 p))

-- ---- the notes

pub line-gained : {K E : Type 0} (written : K → Option (List ℕ)) (count : K → ℕ) (a b : K) (e : Ending) (r : Result (Unit {0}) E) → WritesBytes written count a b r (notes_of e) → GainsLine (written a) (written b) (count a) (count b) e
line-gained written count a b e (Ok u) h = inl h.bytes
line-gained written count a b e (Err f) h = inr (h.bytes, h.faults.cause refl)

module _ (Noted : Ending → Type 0) where
  -- the line of an item's end, or of want of memory
  item_noted : (cause : Option Refused) (o : Option Ending) → IsItemEnd o → (s : ℕ) → s ≡ (ending_by cause).status → Noted (ending_by cause) → s ≡ (or_memory o).status → Noted (or_memory o) → IsNoted Noted s
  item_noted cause None end s e h k l = record { cause = (cause, e, h); done = λ p. absurd (omega arith); usage = λ p. absurd (omega arith); read_fault = λ p. absurd (omega arith); write_fault = λ p. absurd (omega arith); want_of_memory = λ _. l }
  item_noted cause (Some f) end s e h k l =
      let above : 2 ≤ s = subst (λ n. 2 ≤ n) (sym k) end.above_usage in
      record {
        cause = (cause, e, h);
        done = λ p. absurd (omega (arith, above, p));
        usage = λ p. absurd (omega (arith, above, p));
        read_fault = λ p. absurd (end.no_read_fault (sym k ∙ p));
        write_fault = λ p. absurd (end.no_write_fault (sym k ∙ p));
        want_of_memory = λ p. absurd (end.no_memory (sym k ∙ p));
      }

  -- a status that is not its own has no line
  pub is-noted : (r : Result (Unit {0}) Refused) (s : ℕ) → s ≡ (ending_from r).status → Noted (ending_from r) → IsNoted Noted s
  is-noted (Ok u) s e h = record { cause = (None, e, h); done = λ _. h; usage = λ p. absurd (omega arith); read_fault = λ p. absurd (omega arith); write_fault = λ p. absurd (omega arith); want_of_memory = λ p. absurd (omega arith) }
  is-noted (Err ending.Usage) s e h = record { cause = (Some ending.Usage, e, h); done = λ p. absurd (omega arith); usage = λ _. h; read_fault = λ p. absurd (omega arith); write_fault = λ p. absurd (omega arith); want_of_memory = λ p. absurd (omega arith) }
  is-noted (Err ending.ReadFault) s e h = record { cause = (Some ending.ReadFault, e, h); done = λ p. absurd (omega arith); usage = λ p. absurd (omega arith); read_fault = λ _. h; write_fault = λ p. absurd (omega arith); want_of_memory = λ p. absurd (omega arith) }
  is-noted (Err ending.WriteFault) s e h = record { cause = (Some ending.WriteFault, e, h); done = λ p. absurd (omega arith); usage = λ p. absurd (omega arith); read_fault = λ p. absurd (omega arith); write_fault = λ _. h; want_of_memory = λ p. absurd (omega arith) }
  is-noted (Err ending.WantOfMemory) s e h = record { cause = (Some ending.WantOfMemory, e, h); done = λ p. absurd (omega arith); usage = λ p. absurd (omega arith); read_fault = λ p. absurd (omega arith); write_fault = λ p. absurd (omega arith); want_of_memory = λ _. h }
  is-noted (Err ending.InputTooLong) s e h = record { cause = (Some ending.InputTooLong, e, h); done = λ p. absurd (omega arith); usage = λ p. absurd (omega arith); read_fault = λ p. absurd (omega arith); write_fault = λ p. absurd (omega arith); want_of_memory = λ p. absurd (omega arith) }
  is-noted (Err e) s k h = item_noted (Some e) (told e) (item_end e tt) s k h k h

-- ---- the sink

within_or_not : (c : Command) (bytes : List ℕ) → IsWithin c bytes → IsTooLong c bytes → ⊥
within_or_not c bytes within long = let short = within long.0 in omega (arith, short, long.1)

Appends-kept : (a b : Option (List ℕ)) → Keeps a b → Appends a b []
Appends-kept None b h = tt
Appends-kept (Some xs) None h = h
Appends-kept (Some xs) (Some ys) h = h ∙ sym (append-nil xs)

-- what was gained is of another kind too
pub gained-as : (Are Are' : List (List ℕ) → Type 0) (a b : Option (List ℕ)) → ((ts : List (List ℕ)) → Are ts → Are' ts) → Gained Are a b → Gained Are' a b
gained-as Are Are' a b f h = record { texts = h.texts; are = f h.texts h.are; gained = h.gained }

pub front-as : (Are Are' : List (List ℕ) → Type 0) (a b : Option (List ℕ)) → ((ts : List (List ℕ)) → Are ts → Are' ts) → GainedFront Are a b → GainedFront Are' a b
front-as Are Are' a b f h = record { texts = h.texts; are = f h.texts h.are; gained = h.gained }

module _ (c : Command) (asked : IsAsked c) (bytes : List ℕ) (a b : Option (List ℕ)) where
  abbrev First : List (List ℕ) → Type 0
  First ts = IsFirstOutput c bytes ts

  abbrev Whole : List (List ℕ) → Ending → Type 0
  Whole ts e = IsOutput c bytes ts e

  nothing_first : Keeps a b → Gained (AreFirst c bytes) a b
  nothing_first h = record { texts = []; are = (tt, tt); gained = Appends-kept a b h }

  -- the texts of first items are right
  are_first : IsWithin c bytes → (ts : List (List ℕ)) → First ts → AreFirst c bytes ts
  are_first within ts h = (h, first_output-right c bytes (asked bytes within) ts h)

  module _ (Noted : Ending → Type 0) (s : ℕ) where
    ends_with : (e : Ending) → s ≡ e.status → Noted e → Gained (λ ts. Whole ts e) a b → EndsWith c bytes a b Noted s
    ends_with e k n h = record { texts = h.texts; ending = e; output = h.are; written = h.gained; status_is = k; noted = n }

    -- the status is that of no fault and no want of memory
    at_end : IsOfItems s → (IsWithin c bytes → EndsWith c bytes a b Noted s) → (IsTooLong c bytes → EndsAtLimit c bytes a b Noted s) → HasEnded c bytes a b Noted s
    at_end p whole long = record {
      whole = λ within _. whole within;
      too_long = long;
      read_fault = λ q. absurd (p.0 q);
      write_fault = λ q. absurd (p.1 q);
      want_of_memory = λ q. absurd (p.2 q);
    }

    at_memory : s ≡ 8 → Keeps a b → HasEnded c bytes a b Noted s
    at_memory k h = record {
      whole = λ within p. absurd (p.2 k);
      too_long = λ long. record { statuses = inr (inr k); noted = λ p. absurd (omega arith); nothing = h };
      read_fault = λ p. h;
      write_fault = λ p. absurd (omega arith);
      want_of_memory = λ p. nothing_first h;
    }

    at_item : (o : Option Ending) → IsItemEnd o → s ≡ (or_memory o).status → Noted (or_memory o) → IsWithin c bytes → WritesTill First Whole a b o → HasEnded c bytes a b Noted s
    at_item None end k n within h = record {
      whole = λ _ p. absurd (p.2 k);
      too_long = λ long. absurd (within_or_not c bytes within long);
      read_fault = λ p. absurd (omega arith);
      write_fault = λ p. absurd (omega arith);
      want_of_memory = λ p. gained-as First (AreFirst c bytes) a b (are_first within) h;
    }
    at_item (Some e) end k n within h =
        at_end (λ p. end.no_read_fault (sym k ∙ p), λ p. end.no_write_fault (sym k ∙ p), λ p. end.no_memory (sym k ∙ p))
        (λ _. ends_with e k n h) (λ long. absurd (within_or_not c bytes within long))

    pub ends-by : (r : Result (Unit {0}) Refused) → s ≡ (ending_from r).status → Noted (ending_from r) → WritesOutput c bytes a b r → HasEnded c bytes a b Noted s
    ends-by (Ok u) k n h =
        at_end (omega arith, omega arith, omega arith) (λ _. ends_with finished k n h.1) (λ long. absurd (within_or_not c bytes h.0 long))
    ends-by (Err ending.Usage) k n h = absurd h
    ends-by (Err ending.ReadFault) k n h = record {
      whole = λ within p. absurd (p.0 k);
      too_long = λ long. record { statuses = inr (inl k); noted = λ p. absurd (omega arith); nothing = h };
      read_fault = λ p. h;
      write_fault = λ p. absurd (omega arith);
      want_of_memory = λ p. absurd (omega arith);
    }
    ends-by (Err ending.WriteFault) k n h = record {
      whole = λ within p. absurd (p.1 k);
      too_long = λ long. absurd (within_or_not c bytes h.0 long);
      read_fault = λ p. absurd (omega arith);
      write_fault = λ p. front-as First (AreFirst c bytes) a b (are_first h.0) h.1;
      want_of_memory = λ p. absurd (omega arith);
    }
    ends-by (Err ending.WantOfMemory) k n (inl h) = at_memory k h
    ends-by (Err ending.WantOfMemory) k n (inr h) = at_item None tt k n h.0 h.1
    ends-by (Err ending.InputTooLong) k n h =
        at_end (omega arith, omega arith, omega arith) (λ within. absurd (within_or_not c bytes within h.0)) (λ long. record { statuses = inl k; noted = λ p. n; nothing = h.1 })
    ends-by (Err e) k n h = at_item (told e) (item_end e tt) k n h.0 h.1

-- ---- where the items end the run

module _ (c : Command) (bytes : List ℕ) (a b : Option (List ℕ)) (Noted : Ending → Type 0) (s : ℕ) (whole : IsWithin c bytes → IsOfItems s → EndsWith c bytes a b Noted s) where
  -- each text is right
  pub right-by : IsAsked c → AnswersRight c bytes a b s
  right-by asked within p =
      let e = whole within p in
      record {
        texts = e.texts;
        ending = e.ending;
        right = output-right c bytes (asked bytes within) e.texts e.ending e.output;
        written = e.written;
        status_is = e.status_is;
      }

  -- and they are all where no item is refused, unless memory was
  pub completes-by : s ≢ 6 → s ≢ 7 → Completes c bytes a b s
  completes-by p q within ts l =
      elim (cases_eq s 8) [
        | inl memory ↦ inr memory
        | inr other ↦
            let e = whole within (p, q, other) in
            let same = output-unique c bytes e.texts ts e.ending finished e.output l in
            inl (e.status_is ∙ ap (λ (x : Ending). x.status) same.1, subst (λ ss. Appends a b (concat ss)) same.0 e.written)
      ]

-- What the loop over the problems of an input has written so far, and what it is at each of its ends.
use Rattle.solve_items.proofs.Words.{◌≡◌, refl, sym, ap, subst, ◌∙◌, ℕ, ◌+◌, ◌-◌, ◌<◌, ◌≤◌, inl, inr, arith, true, false, List, [], length, length-append, length-drop, take, drop, Appends-nil, drop-drop, drop-take, ◌⊎◌, ◌↔◌, IfSome, Result, Ok, Err, IsErrOf, if◌then◌else◌, list_all, Appends, AppendsFront, HeldBytes, most_input_bytes, Problem, Fault, moved, is_closed, read_native, Ending, finished, fault_ending, matrix_item, problem_item, ItemAt, or_ending, text_with, text_of_item, IsItself, NoEnd, Ends, SolveOptions, Solve, item_text, text_of, read_native-moved, first_items-end, group_behind, first_group_end, taken_by, bytes_from, ReadsNext, ReadsNone, IsSpared, StaysOpen, HoldsRest, FindsNext, IsReady, told, IsOfItem, Gained, GainedFront, counts-none, counts-as, EndsByFaults, AreEnded, AreBefore, AreAll, WritesTillEnd, WritesByProblem, Answers, IsUnread, IsUnanswered, AnswersNext, own-not, err-same, counts-failed, faults-by}
use Rattle.std.specs.Prelude.{Option, Some, None}
use Rattle.std.specs.Option.{option_map}
use Rattle.program_model.specs.Output.{IsFirstOutput}
use Rattle.text_laws.proofs.ReadProblems.{read_native-none}
use Rattle.text_laws.proofs.Items.{next_open-closed}
use Rattle.pip_problem.specs.Faults.{read_fault}
use Rattle.pip_problem.specs.declared.refusal.ReadRefusal.{ReadRefusal}
use Rattle.pip_stream.specs.declared.refusal.NextRefusal.{NextRefusal}
use Rattle.pip_stream.specs.declared.refusal.NextRefusal.TheVariants as next
use Rattle.item_writing.specs.InputEndings.{next_ending}
use Rattle.item_writing.specs.declared.ending.Ending.{Ending as Refused}
use Rattle.item_writing.specs.declared.ending.Ending.TheVariants as ending
use Rattle.pip_outside.specs.Faults.{HasRisen, CountsFaults}
use Rattle.item_writing.proofs.Written.{LeadTo, nothing, one_more, front_of_one}

module _ (o : SolveOptions) (bytes : List ℕ) where
  abbrev pub text : ℕ → ItemAt (List ℕ)
  text = item_text (Solve o) bytes

  -- the window stands behind the items whose texts were written
  pub record Follows (w : HeldBytes) (now : Option (List ℕ)) (a b : Option (List ℕ)) : Type 0 where
    pub texts : Gained (LeadTo (item_text (Solve o) bytes) w.base) a b
    pub low : w.base ≤ length bytes
    pub left_now : List ℕ
    pub told : now ≡ Some left_now
    pub rest : bytes_from w left_now ≡ drop w.base bytes

module _ (o : SolveOptions) (native : o.polylib ≡ false) (bytes : List ℕ) where
  -- the text at a place is of what is read of the bytes from there on
  pub text-is : (at : ℕ) → at ≤ length bytes → text o bytes at ≡ text_of_item (text_of (Solve o)) (or_ending (moved at (read_native (drop at bytes) 0)))
  text-is at low =
      let here : at + 0 ≡ at = omega arith in
      let within : at + 0 ≤ length bytes = omega arith in
      ap (λ b. text_of_item (text_of (Solve o)) (if b then matrix_item bytes at else problem_item bytes at)) native
      ∙ ap (λ r. text_of_item (text_of (Solve o)) (or_ending r)) (ap (read_native bytes) (sym here) ∙ read_native-moved bytes at 0 within)

  pub follows-start : (w : HeldBytes) (a : Option (List ℕ)) → w ≡ record { held = []; base = 0; peak = 0 } → Follows o bytes w (Some bytes) a a
  follows-start w a e =
      subst (λ v. Follows o bytes v (Some bytes) a a) (sym e) (record { texts = nothing (text o bytes) a; low = omega arith; left_now = bytes; told = refl; rest = refl })

  module _ (w : HeldBytes) (now : Option (List ℕ)) (a b : Option (List ℕ)) (f : Follows o bytes w now a b) where
    size : length (bytes_from w f.left_now) ≡ length bytes - w.base
    size = ap length f.rest ∙ length-drop w.base bytes

    text-here : text o bytes w.base ≡ text_of_item (text_of (Solve o)) (or_ending (moved w.base (read_native (bytes_from w f.left_now) 0)))
    text-here = text-is w.base f.low ∙ ap (λ x. text_of_item (text_of (Solve o)) (or_ending (moved w.base (read_native x 0)))) (sym f.rest)

    -- ---- a problem is read

    module _ (new : HeldBytes) (after : Option (List ℕ)) (P : Problem) (n : ℕ) (r : ReadsNext w f.left_now new after P n) where
      text-read : text o bytes w.base ≡ text_of_item (text_of (Solve o)) (Ok (Some (P, new.base)))
      text-read = text-here ∙ ap (λ x. text_of_item (text_of (Solve o)) (or_ending (moved w.base x))) r.read ∙ ap (λ p. text_of_item (text_of (Solve o)) (Ok (Some (P, p)))) (sym r.drops.base)

      pub text-written : (t : List ℕ) → text_of (Solve o) P ≡ Ok t → text o bytes w.base ≡ Ok (Some (t, new.base))
      text-written t e = text-read ∙ ap (λ x. text_with x new.base) e

      pub follows-more : (c : Option (List ℕ)) (t : List ℕ) → text_of (Solve o) P ≡ Ok t → Appends b c t → Follows o bytes new after a c
      follows-more c t e k = record {
        texts = one_more (text o bytes) a b c w.base new.base t f.texts (text-written t e) k;
        low = omega (arith, size, r.drops.few, r.drops.base, f.low);
        left_now = r.drops.left_now;
        told = r.drops.told;
        rest = r.drops.rest ∙ ap (drop (r.start + n)) f.rest ∙ drop-drop (r.start + n) w.base bytes ∙ ap (λ i. drop i bytes) (omega (arith, r.drops.base));
      }

      front-written : (c : Option (List ℕ)) (t : List ℕ) → text_of (Solve o) P ≡ Ok t → AppendsFront b c t → GainedFront (IsFirstOutput (Solve o) bytes) a c
      front-written c t e k = front_of_one (text o bytes) a b c w.base new.base t f.texts (text-written t e) k

    -- ---- the run ends

    abbrev Spared : ℕ → Type 0
    Spared n = (q : ℕ) → first_group_end (drop w.base bytes) ≡ Some q → n ≤ w.base + q + 4095

    before-written : (n : ℕ) → Spared n → Gained (AreBefore (Solve o) bytes n) a b
    before-written n spared = record { texts = f.texts.texts; are = record { place = w.base; texts = f.texts.are; spared = spared }; gained = f.texts.gained }

    all-written : (n : ℕ) (e : Ending) → n ≤ most_input_bytes → Ends (text o bytes) IsItself NoEnd (text o bytes w.base) e → Spared n → Gained (AreAll (Solve o) bytes n e) a b
    all-written n e within h spared = record {
      texts = f.texts.texts;
      are = record {
        before = record { place = w.base; texts = f.texts.are; spared = spared };
        output = first_items-end (text o bytes) IsItself NoEnd f.texts.texts 0 w.base e f.texts.are h;
        within = within;
      };
      gained = f.texts.gained;
    }

    refused-written : (n : ℕ) (e : Ending) → n ≤ most_input_bytes → text o bytes w.base ≡ Err e → Spared n → Gained (AreAll (Solve o) bytes n e) a b
    refused-written n e within h spared = all-written n e within (subst (λ r. Ends (text o bytes) IsItself NoEnd r e) (sym h) refl) spared

    -- no problem is left
    pub none-written : (n : ℕ) → n ≤ most_input_bytes → (new : HeldBytes) (after : Option (List ℕ)) → ReadsNone w f.left_now new after → Gained (AreAll (Solve o) bytes n finished) a b
    none-written n within new after r =
        let none : text o bytes w.base ≡ Ok None = text-here ∙ ap (λ x. text_of_item (text_of (Solve o)) (or_ending (moved w.base x))) r.read in
        let closed : list_all is_closed (bytes_from w f.left_now) ≡ true = (read_native-none (bytes_from w f.left_now) 0).0 r.read in
        let no_group : first_group_end (drop w.base bytes) ≡ None = ap first_group_end (sym f.rest) ∙ ap (group_behind (bytes_from w f.left_now)) (next_open-closed 0 (bytes_from w f.left_now) closed) in
        all-written n finished within (subst (λ x. Ends (text o bytes) IsItself NoEnd x finished) (sym none) refl) (λ q e. absurd (not_both q e no_group))
      where
        not_both : (q : ℕ) → first_group_end (drop w.base bytes) ≡ Some q → first_group_end (drop w.base bytes) ≡ None → ⊥
        not_both q e k = cc

    -- the calculation of a problem is refused
    module _ (new : HeldBytes) (after : Option (List ℕ)) (P : Problem) (n : ℕ) (r : ReadsNext w f.left_now new after P n) (ready : IsReady new) where
      run-spared : Spared (taken_by new)
      run-spared q e =
          let there : Some q ≡ Some (r.start + n) = sym e ∙ ap first_group_end (sym f.rest) ∙ r.ended in
          let same : q ≡ r.start + n = cc in
          omega (arith, same, r.drops.base, ready.few)

      run-till : (o' : Option Ending) → IfSome o' (λ e. text_of (Solve o) P ≡ Err e) → WritesTillEnd (Solve o) bytes (taken_by new) a b o'
      run-till None h = before-written (taken_by new) run-spared
      run-till (Some e) h = refused-written (taken_by new) e ready.within (text-read new after P n r ∙ ap (λ x. text_with x new.base) h) run-spared

      run-refused : (e : Refused) → IsOfItem e → IfSome (told e) (λ k. text_of (Solve o) P ≡ Err k) → WritesByProblem (Solve o) bytes (taken_by new) a b (Err e)
      run-refused ending.Usage own h = absurd own
      run-refused ending.ReadFault own h = absurd own
      run-refused ending.WriteFault own h = absurd own
      run-refused ending.InputTooLong own h = absurd own
      run-refused e own h = run-till (told e) h

    -- the next problem is not read
    module _ (new : HeldBytes) (after : Option (List ℕ)) where
      next-spared : IsSpared w f.left_now new after → Spared (taken_by new)
      next-spared h = λ q k. h.spared q (ap first_group_end f.rest ∙ k)

      fault-till : (fault : Option Fault) → taken_by new ≤ most_input_bytes → IfSome fault (λ e. moved w.base (read_native (bytes_from w f.left_now) 0) ≡ Err e) → IsSpared w f.left_now new after → WritesTillEnd (Solve o) bytes (taken_by new) a b (option_map fault_ending fault)
      fault-till None within h k = before-written (taken_by new) (next-spared k)
      fault-till (Some e) within h k =
          refused-written (taken_by new) (fault_ending e) within (text-here ∙ ap (λ x. text_of_item (text_of (Solve o)) (or_ending x)) h) (next-spared k)

      open-written : (n m : ℕ) → n ≡ w.base + m → StaysOpen w f.left_now new after m → Gained (AreEnded (Solve o) bytes n) a b
      open-written n m e h = record {
        texts = f.texts.texts;
        are = record {
          place = w.base;
          texts = f.texts.are;
          within = omega (arith, e);
          open_still = ap (λ k. first_group_end (drop w.base (take k bytes))) e ∙ ap first_group_end (drop-take w.base m bytes) ∙ ap (λ x. first_group_end (take m x)) (sym f.rest) ∙ h.open_still;
        };
        gained = f.texts.gained;
      }

      held-few : HoldsRest w f.left_now new after → taken_by new ≤ length bytes
      held-few h =
          let d = h.drops in
          let rest : length new.held + length d.left_now ≡ length (bytes_from w f.left_now) - h.count = sym (length-append new.held d.left_now) ∙ ap length d.rest ∙ length-drop h.count (bytes_from w f.left_now) in
          omega (arith, rest, d.few, d.base, size, f.low)

      next-refused : (e : NextRefusal) → IsReady w → ((next_ending e ≡ ending.InputTooLong) ↔ (most_input_bytes < taken_by new)) → FindsNext w f.left_now new after (Err e) → WritesByProblem (Solve o) bytes (taken_by new) a b (Err (next_ending e))
      next-refused (next.Read e) ready long h =
          let few : ¬ (most_input_bytes < taken_by new) = λ k. no_input e (long.1 k) in
          fault-till (read_fault e) (omega (arith, few)) h.read h.kept
        where
          no_input : (x : ReadRefusal) → ending.Problem x ≡ ending.InputTooLong → ⊥
          no_input x k = cc
      next-refused next.Failed ready long h =
          let base = h.rest.drops.base in
          open-written (taken_by new) (taken_by new - w.base) (omega (arith, base)) h
      next-refused next.InputBytes ready long h =
          let few = held-few h.rest in
          let more = long.0 refl in
          (omega arith, open-written most_input_bytes (most_input_bytes - w.base) (omega (arith, ready.within)) h)
      next-refused next.WantOfMemory ready long h = before-written (taken_by new) (next-spared h)

    -- the next problem is not answered
    module _ (new : HeldBytes) (after : Option (List ℕ)) (ready : IsReady w) where
      not-answered : (e : Refused) → ((e ≡ ending.InputTooLong) ↔ (most_input_bytes < taken_by new)) → IsUnread o w f.left_now new after e ⊎ IsUnanswered o w f.left_now new after e → WritesByProblem (Solve o) bytes (taken_by new) a b (Err e)
      not-answered e long (inl u) =
          subst (λ x. WritesByProblem (Solve o) bytes (taken_by new) a b (Err x)) (sym u.is) (next-refused new after u.refusal ready (subst (λ x. (x ≡ ending.InputTooLong) ↔ (most_input_bytes < taken_by new)) u.is long) u.finds)
      not-answered e long (inr u) = run-refused new after u.problem u.size u.reads u.ready e u.own u.refused

      pub err-written : (c : Option (List ℕ)) (e : Refused) → (¬ (e ≡ ending.WriteFault) → c ≡ b) → ((e ≡ ending.InputTooLong) ↔ (most_input_bytes < taken_by new)) → AnswersNext o w f.left_now new after b c (Err e) → WritesByProblem (Solve o) bytes (taken_by new) a c (Err e)
      err-written c ending.WriteFault same long h = front-written new after h.problem h.size h.reads c h.text h.made h.gained
      err-written c e same long h =
          subst (λ x. WritesByProblem (Solve o) bytes (taken_by new) a x (Err e)) (sym (same (λ p. cc))) (not-answered e long h)

-- ---- refusals

-- a refusal of a problem is neither of the words nor of a write, and a fault only where the source failed
pub next-not : (e : NextRefusal) → (¬ (next_ending e ≡ ending.Usage)) × (¬ (next_ending e ≡ ending.WriteFault)) × (next_ending e ≡ ending.ReadFault → e ≡ next.Failed)
next-not next.Failed = (λ h. cc, λ h. cc, λ h. refl)
next-not e = (λ h. cc, λ h. cc, λ h. absurd cc)

next-same : {T : Type 0} (x y : NextRefusal) → IsErrOf {T = T} (Err x) y → x ≡ y
next-same x y h = cc

pub faults-ok : {T : Type 0} (rb ra wb wa : ℕ) (x : T) → EndsByFaults {T = T} rb ra wb wa (Ok x) → (ra ≡ rb) × (wa ≡ wb)
faults-ok rb ra wb wa x h = (h.read_quiet (λ p. cc), h.write_quiet (λ p. cc))

module _ (rb r0 ra wb w0 wa : ℕ) (read : r0 ≡ rb) (write : w0 ≡ wb) where
  pub faults-none : {T : Type 0} (x : T) → EndsByFaults {T = T} rb r0 wb w0 (Ok x)
  faults-none x = faults-by rb r0 wb w0 (Ok x) (counts-none rb r0 (λ h. cc) read) (counts-none wb w0 (λ h. cc) write)

  pub faults-next : {T : Type 0} (e : NextRefusal) → CountsFaults (IsErrOf {T = Option (Problem × ℕ)} (Err e) next.Failed) r0 ra → EndsByFaults {T = T} rb ra wb w0 (Err (next_ending e))
  faults-next e h = faults-by rb ra wb w0 (Err (next_ending e))
      (counts-as rb r0 ra read (λ k. ap Err ((next-not e).2 (err-same _ _ k))) (λ k. ap (λ x. Err (next_ending x)) (next-same e next.Failed k)) h)
      (counts-none wb w0 (λ k. (next-not e).1 (err-same _ _ k)) write)

  pub faults-own : {T : Type 0} (e : Refused) → IsOfItem e → EndsByFaults {T = T} rb r0 wb w0 (Err e)
  faults-own e own =
      let n = own-not e own in
      faults-by rb r0 wb w0 (Err e) (counts-none rb r0 (λ h. n.1 (err-same _ _ h)) read) (counts-none wb w0 (λ h. n.2 (err-same _ _ h)) write)

  pub faults-write : {T : Type 0} {Fails : Type 0} → CountsFaults Fails w0 wa → Fails → EndsByFaults {T = T} rb r0 wb wa (Err ending.WriteFault)
  faults-write h failed = faults-by rb r0 wb wa (Err ending.WriteFault) (counts-none rb r0 (λ k. cc) read) (counts-failed wb w0 wa write h failed refl)

  -- behind calls without a fault
  pub faults-after : {T U : Type 0} (e : Refused) → EndsByFaults {T = T} r0 ra w0 wa (Err e) → EndsByFaults {T = U} rb ra wb wa (Err e)
  faults-after e h = record {
    read_fault = λ k. subst (λ n. HasRisen n ra) read (h.read_fault (ap (λ x. Err x) (err-same _ _ k)));
    write_fault = λ k. subst (λ n. HasRisen n wa) write (h.write_fault (ap (λ x. Err x) (err-same _ _ k)));
    read_quiet = λ k. h.read_quiet (λ q. k (ap (λ x. Err x) (err-same _ _ q))) ∙ read;
    write_quiet = λ k. h.write_quiet (λ q. k (ap (λ x. Err x) (err-same _ _ q))) ∙ write;
  }

-- no window is made, for want of memory
pub unmade : (o : SolveOptions) (input a : Option (List ℕ)) (n : ℕ) → n ≡ 0 → IfSome input (λ bytes. WritesByProblem (Solve o) bytes n a a (Err ending.WantOfMemory))
unmade o None a n zero = tt
unmade o (Some bytes) a n zero = record { texts = []; are = record { place = 0; texts = refl; spared = λ q e. omega (arith, zero) }; gained = Appends-nil a }

-- ---- one problem

module _ (o : SolveOptions) (w : HeldBytes) (new : HeldBytes) (after b c : Option (List ℕ)) where
  next-unread : (left : List ℕ) (e : NextRefusal) → FindsNext w left new after (Err e) → AnswersNext o w left new after b c (Err (next_ending e))
  next-unread left next.Failed h = inl (record { refusal = next.Failed; is = refl; finds = h })
  next-unread left e h = inl (record { refusal = e; is = refl; finds = h })

  pub unread-told : (now : Option (List ℕ)) (e : NextRefusal) → IfSome now (λ left. FindsNext w left new after (Err e)) → IfSome now (λ left. AnswersNext o w left new after b c (Err (next_ending e)))
  unread-told None e h = tt
  unread-told (Some left) e h = next-unread left e h

  own-unanswered : (left : List ℕ) (P : Problem) (n : ℕ) → ReadsNext w left new after P n → IsReady new → (e : Refused) → IsOfItem e → IfSome (told e) (λ f. text_of (Solve o) P ≡ Err f) → AnswersNext o w left new after b c (Err e)
  own-unanswered left P n r ready ending.Usage own h = absurd own
  own-unanswered left P n r ready ending.ReadFault own h = absurd own
  own-unanswered left P n r ready ending.WriteFault own h = absurd own
  own-unanswered left P n r ready ending.InputTooLong own h = absurd own
  own-unanswered left P n r ready e own h = inr (record { problem = P; size = n; reads = r; ready = ready; own = own; refused = h })

  pub unanswered-told : (now : Option (List ℕ)) (P : Problem) (n : ℕ) → IfSome now (λ left. ReadsNext w left new after P n) → IsReady new → (e : Refused) → IsOfItem e → IfSome (told e) (λ f. text_of (Solve o) P ≡ Err f) → IfSome now (λ left. AnswersNext o w left new after b c (Err e))
  unanswered-told None P n r ready e own h = tt
  unanswered-told (Some left) P n r ready e own h = own-unanswered left P n r ready e own h

  pub answers-told : (Gains : List ℕ → Type 0) (now : Option (List ℕ)) (P : Problem) (n : ℕ) (t : List ℕ) → IfSome now (λ left. ReadsNext w left new after P n) → text_of (Solve o) P ≡ Ok t → Gains t → IfSome now (λ left. Answers o w left new after Gains)
  answers-told Gains None P n t r made h = tt
  answers-told Gains (Some left) P n t r made h = record { problem = P; size = n; reads = r; text = t; made = made; gained = h }

-- the limit is that of the input
pub next-limit : {T U : Type 0} (e : NextRefusal) (n : ℕ) → (IsErrOf {T = T} (Err e) next.InputBytes ↔ (most_input_bytes < n)) → IsErrOf {T = U} (Err (next_ending e)) ending.InputTooLong ↔ (most_input_bytes < n)
next-limit (next.Read e) n h = (λ p. absurd (problem-not e p), λ q. absurd (read-not e (h.1 q)))
  where
    problem-not : {U : Type 0} (x : ReadRefusal) → IsErrOf {T = U} (Err (ending.Problem x)) ending.InputTooLong → ⊥
    problem-not x p = cc

    read-not : {T : Type 0} (x : ReadRefusal) → IsErrOf {T = T} (Err (next.Read x)) next.InputBytes → ⊥
    read-not x p = cc
next-limit next.InputBytes n h = (λ p. h.0 refl, λ q. refl)
next-limit e n h = (λ p. absurd cc, λ q. absurd (let p = h.1 q in cc))

-- any other end keeps within it
pub own-limit : {U : Type 0} (r : Result U Refused) (n : ℕ) → ¬ IsErrOf r ending.InputTooLong → n ≤ most_input_bytes → IsErrOf r ending.InputTooLong ↔ (most_input_bytes < n)
own-limit r n other within = (λ p. absurd (other p), λ q. absurd (omega (arith, within, q)))

pub own-not_long : {U : Type 0} (e : Refused) → IsOfItem e → ¬ IsErrOf {T = U} (Err e) ending.InputTooLong
own-not_long e own h = (own-not e own).3 (err-same _ _ h)

pub err-limit : {T : Type 0} (e : Refused) (n : ℕ) → (IsErrOf {T = T} (Err e) ending.InputTooLong ↔ (most_input_bytes < n)) → (e ≡ ending.InputTooLong) ↔ (most_input_bytes < n)
err-limit e n h = (λ p. h.0 (ap (λ x. Err x) p), λ q. err-same _ _ (h.1 q))

pub next-words : {T : Type 0} (e : NextRefusal) → ¬ IsErrOf {T = T} (Err (next_ending e)) ending.Usage
next-words e h = (next-not e).0 (err-same _ _ h)

pub own-words : {T : Type 0} (e : Refused) → IsOfItem e → ¬ IsErrOf {T = T} (Err e) ending.Usage
own-words e own h = (own-not e own).0 (err-same _ _ h)

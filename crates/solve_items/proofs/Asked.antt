-- That the source is not called again once the group of a refused problem has ended.
use Rattle.solve_items.proofs.Words.{◌≡◌, refl, sym, ap, subst, ◌∙◌, ℕ, ◌+◌, ◌-◌, ◌<◌, ◌≤◌, ◌↔◌, inl, inr, arith, Bool, true, false, List, [], ◌∷◌, length, length-drop, take, drop, IfSome, Result, Ok, Err, Takes, AsksOn, CallsWithin, takes-none, takes-then, asks-none, asks-then, Appends, AppendsFront, Appends-trans, concat, HeldBytes, most_input_bytes, Problem, Fault, moved, read_native, Ending, finished, ItemAt, Gives, FirstItemsTo, IsItself, or_ending, text_with, text_of_item, SolveOptions, Solve, text_of, read_native-ends, first_group_end, taken_by, AsksWhileOpen, AsksInTurns, CallsFor, if-map, if-some, ReadsNone, IsReady, Gained, StopsAtRefused, FailsInTime, AreAll, WritesByProblem, Answers, AnswersNext, CallsBy, err-same}
use Rattle.std.specs.Prelude.{Option, Some, None}
use Rattle.pip_stream.proofs.Groups.{group_end-ends}
use Rattle.pip_stream.proofs.Taking.{ended-by}
use Rattle.pip_stream.proofs.Asking.{turns-any}
use Rattle.item_writing.specs.declared.ending.Ending.{Ending as Refused}
use Rattle.item_writing.specs.declared.ending.Ending.TheVariants as ending
use Rattle.solve_items.proofs.ByProblem.{text, text-is, text-written, Follows, follows-start, follows-more, none-written, err-written}

-- ---- items one after the other

module _ (read : ℕ → ItemAt (List ℕ)) where
  -- first items that lead to a refused one go on behind others
  pub leads-on : (ts us : List (List ℕ)) (at b place : ℕ) (e : Ending) → FirstItemsTo read IsItself at ts b → FirstItemsTo read IsItself at us place → read place ≡ Err e → (vs : List (List ℕ)) × FirstItemsTo read IsItself b vs place
  leads-on [] us at b place e h k r = (us, subst (λ p. FirstItemsTo read IsItself p us place) h k)
  leads-on (t ∷ ts) [] at b place e h k r =
      absurd (subst (λ x. Gives read IsItself x t (λ after. FirstItemsTo read IsItself after ts b)) (ap read k ∙ r) h)
  leads-on (t ∷ ts) (u ∷ us) at b place e h k r = by_read (λ after i j. leads-on ts us after b place e i j r) (read at) h k
    where
      by_read : ((after : ℕ) → FirstItemsTo read IsItself after ts b → FirstItemsTo read IsItself after us place → (vs : List (List ℕ)) × FirstItemsTo read IsItself b vs place) → (x : ItemAt (List ℕ)) → Gives read IsItself x t (λ after. FirstItemsTo read IsItself after ts b) → Gives read IsItself x u (λ after. FirstItemsTo read IsItself after us place) → (vs : List (List ℕ)) × FirstItemsTo read IsItself b vs place
      by_read on (Ok (Some x)) h k = on x.1 h.1 k.1
      by_read on (Ok None) h k = absurd h
      by_read on (Err f) h k = absurd h

-- the problem of an item whose text is made is a group
pub record IsGroupTo (bytes : List ℕ) (at after : ℕ) : Type 0 where
  pub size : ℕ
  pub is : after ≡ at + size
  pub ended : first_group_end (drop at bytes) ≡ Some size

module _ (o : SolveOptions) (native : o.polylib ≡ false) (bytes : List ℕ) where
  group-of : (at : ℕ) (r : Result (Option (Problem × ℕ)) Fault) → ((x : Problem × ℕ) → r ≡ Ok (Some x) → first_group_end (drop at bytes) ≡ Some x.1) → (t : List ℕ) (after : ℕ) → text_of_item (text_of (Solve o)) (or_ending (moved at r)) ≡ Ok (Some (t, after)) → IsGroupTo bytes at after
  group-of at (Ok (Some x)) ends t after e = by_text (text_of (Solve o) x.0) e
    where
      by_text : (s : Result (List ℕ) Ending) → text_with s (at + x.1) ≡ Ok (Some (t, after)) → IsGroupTo bytes at after
      by_text (Ok u) e = record { size = x.1; is = let same : (u, at + x.1) ≡ (t, after) = cc in sym (ap (λ (p : List ℕ × ℕ). p.1) same); ended = ends x refl }
      by_text (Err f) e = absurd cc
  group-of at (Ok None) ends t after e = absurd cc
  group-of at (Err f) ends t after e = absurd cc

  is-group : (at : ℕ) → at ≤ length bytes → (t : List ℕ) (after : ℕ) → text o bytes at ≡ Ok (Some (t, after)) → IsGroupTo bytes at after
  is-group at low t after e =
      group-of at (read_native (drop at bytes) 0) (λ x r. ended-by (drop at bytes) x (read_native (drop at bytes) 0) (read_native-ends (drop at bytes) 0) r) t after (sym (text-is o native bytes at low) ∙ e)

  group-within : (at after : ℕ) → at ≤ length bytes → (g : IsGroupTo bytes at after) → after ≤ length bytes
  group-within at after low g =
      let e = group_end-ends (drop at bytes) g.size g.ended in
      omega (arith, g.is, e.high, length-drop at bytes, low)

  -- later items stand behind
  lies-behind : (us : List (List ℕ)) (at place : ℕ) → at ≤ length bytes → FirstItemsTo (text o bytes) IsItself at us place → at ≤ place
  lies-behind [] at place low k = omega (arith, k)
  lies-behind (u ∷ us) at place low k = by_read (λ after high j. lies-behind us after place high j) (text o bytes at) refl k
    where
      by_read : ((after : ℕ) → after ≤ length bytes → FirstItemsTo (text o bytes) IsItself after us place → after ≤ place) → (x : ItemAt (List ℕ)) → text o bytes at ≡ x → Gives (text o bytes) IsItself x u (λ after. FirstItemsTo (text o bytes) IsItself after us place) → at ≤ place
      by_read on (Ok (Some x)) e k =
          let g = is-group at low x.0 x.1 e in
          let later = on x.1 (group-within at x.1 low g) k.1 in
          omega (arith, later, g.is)
      by_read on (Ok None) e k = absurd k
      by_read on (Err f) e k = absurd k

  -- the group at a place ends no later than that of the refused problem
  record EndsBefore (at last : ℕ) : Type 0 where
    size : ℕ
    ended : first_group_end (drop at bytes) ≡ Some size
    low : at + size ≤ last

  ends-before : (at place n : ℕ) (vs : List (List ℕ)) → at ≤ length bytes → FirstItemsTo (text o bytes) IsItself at vs place → first_group_end (drop place bytes) ≡ Some n → EndsBefore at (place + n)
  ends-before at place n [] low k ends = record { size = n; ended = ap (λ p. first_group_end (drop p bytes)) k ∙ ends; low = omega (arith, k) }
  ends-before at place n (v ∷ vs) low k ends = by_read (text o bytes at) refl k
    where
      by_read : (x : ItemAt (List ℕ)) → text o bytes at ≡ x → Gives (text o bytes) IsItself x v (λ after. FirstItemsTo (text o bytes) IsItself after vs place) → EndsBefore at (place + n)
      by_read (Ok (Some x)) e k =
          let g = is-group at low x.0 x.1 e in
          let later = lies-behind vs x.1 place (group-within at x.1 low g) k.1 in
          record { size = g.size; ended = g.ended; low = omega (arith, later, g.is) }
      by_read (Ok None) e k = absurd k
      by_read (Err f) e k = absurd k

-- ---- the calls of the source

module _ {S : Type 0} (Calls : S → S → Type 0) (taken : S → ℕ) where
  -- The source is not called again once the group of an item has ended to which items lead from a place.
  abbrev pub StopsFrom : SolveOptions → List ℕ → S → S → ℕ → Type 0
  StopsFrom o bytes s t at = (vs : List (List ℕ)) → (place n : ℕ) → FirstItemsTo (text o bytes) IsItself at vs place → first_group_end (drop place bytes) ≡ Some n → CallsWithin Calls taken s t 0 (place + n)

  module _ (o : SolveOptions) (native : o.polylib ≡ false) (s t u : S) (w : HeldBytes) (now a b : Option (List ℕ)) where
    stops-refused : (bytes : List ℕ) (f : Follows o bytes w now a b) → StopsFrom o bytes s u w.base → StopsAtRefused Calls taken s u (Solve o) bytes
    stops-refused bytes f stops by place n r ends =
        let on = leads-on (text o bytes) f.texts.texts r.texts 0 w.base place r.ending f.texts.are r.before r.refused in
        stops on.0 place n on.1 ends

    stops-more : (bytes : List ℕ) (f : Follows o bytes w now a b) → taken t ≡ taken s + taken_by w → Takes Calls taken s t → StopsFrom o bytes s t w.base → AsksWhileOpen Calls taken t u w f.left_now → StopsFrom o bytes s u w.base
    stops-more bytes f counted led before asked vs place n k ends =
        let h = ends-before o native bytes w.base place n vs f.low k ends in
        by_call h (asked h.size (ap first_group_end f.rest ∙ h.ended))
      where
        by_call : (h : EndsBefore o native bytes w.base (place + n)) → CallsWithin Calls taken t u (length w.held) h.size → CallsWithin Calls taken s u 0 (place + n)
        by_call h (inl same) = subst (λ x. CallsWithin Calls taken s x 0 (place + n)) (sym same) (before vs place n k ends)
        by_call h (inr c) = inr (c.0, takes-then Calls taken s t c.0 led c.1, c.2, omega (arith, c.3, counted, h.low))

  -- where the loop stands: the window follows the texts that were written, and what the calls so far did
  pub record Reached (o : SolveOptions) (bytes : List ℕ) (s t : S) (w : HeldBytes) (now a b : Option (List ℕ)) : Type 0 where
    pub follows : Follows o bytes w now a b
    pub counted : taken t ≡ taken s + taken_by w
    pub led : Takes Calls taken s t
    pub stops : StopsFrom o bytes s t w.base

  pub starts : (o : SolveOptions) (native : o.polylib ≡ false) (s : S) (input : Option (List ℕ)) (w : HeldBytes) (a : Option (List ℕ)) → w ≡ record { held = []; base = 0; peak = 0 } → IfSome input (λ bytes. Reached o bytes s s w input a a)
  starts o native s None w a e = tt
  starts o native s (Some bytes) w a e = record {
    follows = follows-start o native bytes w a e;
    counted = omega (arith, ap (λ (x : HeldBytes). taken_by x) e);
    led = takes-none Calls taken s;
    stops = λ vs place n k e. inl refl;
  }

-- ---- the ends of the loop

module _ {S : Type 0} (Calls : S → S → Type 0) (taken : S → ℕ) (tells : S → Option (List ℕ)) (o : SolveOptions) (native : o.polylib ≡ false) (s t u : S) (w new : HeldBytes) (a b : Option (List ℕ)) (found : Bool)
    (rs : IfSome (tells s) (λ bytes. Reached Calls taken o bytes s t w (tells t) a b)) (calls : IfSome (tells t) (λ left. CallsFor Calls taken t u w new left found)) where
  where_told : (Q : List ℕ → Type 0) → ((bytes : List ℕ) (r : Reached Calls taken o bytes s t w (tells t) a b) → CallsFor Calls taken t u w new r.follows.left_now found → Q bytes) → IfSome (tells s) Q
  where_told Q f = go (tells s) rs
    where
      go : (input : Option (List ℕ)) → IfSome input (λ bytes. Reached Calls taken o bytes s t w (tells t) a b) → IfSome input Q
      go None r = tt
      go (Some bytes) r = f bytes r (if-some (λ left. CallsFor Calls taken t u w new left found) (tells t) r.follows.left_now r.follows.told calls)

  pub calls-by : taken_by new ≤ most_input_bytes + 1 → CallsBy tells Calls taken s u (Solve o)
  calls-by bound = record {
    asked = where_told (StopsAtRefused Calls taken s u (Solve o)) (λ bytes r k. stops-refused Calls taken o native s t u w (tells t) a b bytes r.follows (stops-more Calls taken o native s t u w (tells t) a b bytes r.follows r.counted r.led r.stops k.asked));
    turns = where_told (λ _. AsksOn Calls taken s u) (λ bytes r k. asks-then Calls taken s t u r.led (turns-any Calls taken t u found k.turns));
    taken = where_told (λ _. taken u ≤ taken s + (most_input_bytes + 1)) (λ bytes r k. omega (arith, r.counted, k.counted, bound));
  }

  -- what is written where so many were taken as the window tells
  told-by : (c : Option (List ℕ)) (P : List ℕ → Type 0) (r : Result (Unit {0}) Refused) → IfSome (tells t) P → ((bytes : List ℕ) (f : Follows o bytes w (tells t) a b) → P f.left_now → WritesByProblem (Solve o) bytes (taken_by new) a c r) → IfSome (tells s) (λ bytes. WritesByProblem (Solve o) bytes (taken u - taken s) a c r)
  told-by c P r p h = where_told (λ bytes. WritesByProblem (Solve o) bytes (taken u - taken s) a c r) (λ bytes x k.
      let same : taken_by new ≡ taken u - taken s = omega (arith, x.counted, k.counted) in
      subst (λ n. WritesByProblem (Solve o) bytes n a c r) same (h bytes x.follows (if-some P (tells t) x.follows.left_now x.follows.told p)))

  -- the problem is not answered
  pub err-output : (c : Option (List ℕ)) (e : Refused) → IsReady w → (¬ (e ≡ ending.WriteFault) → c ≡ b) → ((e ≡ ending.InputTooLong) ↔ (most_input_bytes < taken_by new)) → IfSome (tells t) (λ left. AnswersNext o w left new (tells u) b c (Err e)) → IfSome (tells s) (λ bytes. WritesByProblem (Solve o) bytes (taken u - taken s) a c (Err e))
  err-output c e ready same long h =
      told-by c (λ left. AnswersNext o w left new (tells u) b c (Err e)) (Err e) h (λ bytes f x. err-written o native bytes w (tells t) a b f new (tells u) ready c e same long x)

  -- none is left
  pub none-output : (c : Option (List ℕ)) → c ≡ b → taken_by new ≤ most_input_bytes → IfSome (tells t) (λ left. ReadsNone w left new (tells u)) → IfSome (tells s) (λ bytes. WritesByProblem (Solve o) bytes (taken u - taken s) a c (Ok tt))
  none-output c same within h =
      told-by c (λ left. ReadsNone w left new (tells u)) (Ok tt) h (λ bytes f x. subst (λ y. Gained (AreAll (Solve o) bytes (taken_by new) finished) a y) (sym same) (none-written o native bytes w (tells t) a b f (taken_by new) within new (tells u) x))

  -- it is answered
  pub reaches : found ≡ true → (c : Option (List ℕ)) → IfSome (tells t) (λ left. Answers o w left new (tells u) (Appends b c)) → IfSome (tells s) (λ bytes. Reached Calls taken o bytes s u new (tells u) a c)
  reaches is c h = where_told (λ bytes. Reached Calls taken o bytes s u new (tells u) a c) (λ bytes r k.
      let x = if-some (λ left. Answers o w left new (tells u) (Appends b c)) (tells t) r.follows.left_now r.follows.told h in
      record {
        follows = follows-more o native bytes w (tells t) a b r.follows new (tells u) x.problem x.size x.reads c x.text x.made x.gained;
        counted = omega (arith, r.counted, k.counted);
        led = takes-then Calls taken s t u r.led (subst (AsksInTurns Calls taken t u) is k.turns);
        stops = λ vs place n lead ends.
            let here = text-written o native bytes w (tells t) a b r.follows new (tells u) x.problem x.size x.reads x.text x.made in
            stops-more Calls taken o native s t u w (tells t) a b bytes r.follows r.counted r.led r.stops k.asked (x.text ∷ vs) place n (subst (λ y. Gives (text o bytes) IsItself y x.text (λ after. FirstItemsTo (text o bytes) IsItself after vs place)) (sym here) (refl, lead)) ends;
      })

  -- a write of its text failed
  pub err-in_time : (c : Option (List ℕ)) (e : Refused) → IfSome (tells t) (λ left. AnswersNext o w left new (tells u) b c (Err e)) → IfSome (tells s) (FailsInTime Calls taken s u a c (Err e) (Solve o))
  err-in_time c e h = where_told (FailsInTime Calls taken s u a c (Err e) (Solve o)) (λ bytes r k by failed.
      let f = r.follows in
      let x = if-some (λ left. Answers o w left new (tells u) (AppendsFront b c)) (tells t) f.left_now f.told (subst (λ y. IfSome (tells t) (λ left. AnswersNext o w left new (tells u) b c (Err y))) (err-same e ending.WriteFault failed) h) in
      let ended : first_group_end (drop w.base bytes) ≡ Some (x.reads.start + x.size) = ap first_group_end (sym f.rest) ∙ x.reads.ended in
      record {
        texts = f.texts.texts;
        place = w.base;
        are = f.texts.are;
        text = x.text;
        next = new.base;
        read = text-written o native bytes w (tells t) a b f new (tells u) x.problem x.size x.reads x.text x.made;
        count = x.gained.0;
        front = x.gained.1;
        gained = Appends-trans a b c (concat f.texts.texts) (take x.gained.0 x.text) f.texts.gained x.gained.2;
        size = x.reads.start + x.size;
        ended = ended;
        asked = stops-more Calls taken o native s t u w (tells t) a b bytes f r.counted r.led r.stops k.asked [] w.base (x.reads.start + x.size) refl ended;
      })

-- a call for the next problem that finds one, whose answer is refused
pub calls-refused : {S : Type 0} (Calls : S → S → Type 0) (taken : S → ℕ) (s u : S) (a v : HeldBytes) (o : Option (List ℕ)) → IfSome o (λ left. CallsFor Calls taken s u a v left true) → IfSome o (λ left. CallsFor Calls taken s u a v left false)
calls-refused Calls taken s u a v o h =
    if-map (λ left. CallsFor Calls taken s u a v left true) (λ left. CallsFor Calls taken s u a v left false) o (λ left k. record { counted = k.counted; asked = k.asked; turns = asks-none Calls taken s u k.turns }) h

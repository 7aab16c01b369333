-- What is read of the bytes of an item alone is what is read of the input.
use Rattle.pip_stream.proofs.Words.{◌≡◌, refl, sym, ap, subst, ◌∙◌, ℕ, suc, ◌+◌, ◌-◌, ◌≤◌, inl, inr, arith, List, [], ◌++◌, length, true, length-append, length-drop, length-take, take, drop, take-append-add, take-length, take-append-drop, take-append-le, drop-append-le, drop-drop, append-nil, Option, Some, None, IfSome, Result, Ok, Err, list_all, HeldBytes, Problem, Fault, Syntax, Wide, next_open, closing, item_at, problem_at, read_native, moved, is_closed, read_fault, ReadRefusal, group_behind, first_group_end, place_behind, next_open-append, next_open-closed, read_native-alone, read_native-moved, read_native-none, taken_by, bytes_from, Drops, Skips, IsItem, HoldsItem, ReadsNext, ReadsNone, IsSpared, RefusesNext, StaysOpen}
use Rattle.pip_stream.proofs.Groups.{group_end-behind, group_end-ends}
use Rattle.pip_stream.proofs.Scanned.{begins, ends-later}

moved-moved : {A : Type 0} (a k : ℕ) (r : Result (Option (A × ℕ)) Fault) → moved a (moved k r) ≡ moved (a + k) r
moved-moved a k (Ok None) = refl
moved-moved a k (Ok (Some x)) = ap (λ p. Ok (Some (x.0, p))) (omega arith)
moved-moved a k (Err (Syntax p)) = ap (λ q. Err (Syntax q)) (omega arith)
moved-moved a k (Err (Wide p)) = ap (λ q. Err (Wide q)) (omega arith)
moved-moved a k (Err e) = refl

no_group : (bytes : List ℕ) → list_all is_closed bytes ≡ true → first_group_end bytes ≡ None
no_group bytes h = ap (group_behind bytes) (next_open-closed 0 bytes h)

-- a window behind bytes that were dropped, and what is left in the source
module _ (old : HeldBytes) (left : List ℕ) (w : HeldBytes) (now : Option (List ℕ)) (s : Skips old left w now) where
  abbrev input : List ℕ
  input = bytes_from old left

  abbrev rest : List ℕ
  rest = bytes_from w s.drops.left_now

  front-size : length (take s.count input) ≡ s.count
  front-size = simp length-take (omega (arith, s.drops.few))

  whole : input ≡ take s.count input ++ rest
  whole = sym (take-append-drop s.count input) ∙ ap (λ x. take s.count input ++ x) (sym s.drops.rest)

  -- the end of the group of the input, by that of the held bytes
  pub group-behind : first_group_end input ≡ place_behind s.count (first_group_end rest)
  group-behind = ap first_group_end whole ∙ group_end-behind (take s.count input) rest s.closed ∙ ap (λ n. place_behind n (first_group_end rest)) front-size

  front-is : (n : ℕ) → n ≤ length w.held → take (s.count + n) input ≡ take s.count input ++ take n w.held
  front-is n h =
      ap (λ k. take (k + n) input) (sym front-size) ∙ ap (take (length (take s.count input) + n)) whole ∙ take-append-add (take s.count input) rest n ∙ ap (λ x. take s.count input ++ x) (take-append-le n w.held s.drops.left_now h)

  -- a front of the held bytes in which the group does not end
  pub stays : (n m : ℕ) → n ≤ length w.held → first_group_end (take n w.held) ≡ None → m ≡ s.count + n → StaysOpen old left w now m
  stays n m h e is = record {
    open_still = ap (λ k. first_group_end (take k input)) is ∙ ap first_group_end (front-is n h) ∙ group_end-behind (take s.count input) (take n w.held) s.closed ∙ ap (place_behind (length (take s.count input))) e;
    rest = s;
  }

  -- the group is open in all that is held
  pub open-spared : first_group_end w.held ≡ None → IsSpared old left w now
  open-spared open_still = record {
    rest = s;
    spared = λ q e.
        let o = stays (length w.held) (s.count + length w.held) (omega arith) (ap first_group_end (take-length w.held) ∙ open_still) refl in
        let later = ends-later input (s.count + length w.held) q o.open_still e in
        omega (arith, later, s.drops.base);
  }

  left-none : now ≡ Some [] → s.drops.left_now ≡ []
  left-none end = let same : Some s.drops.left_now ≡ Some [] = sym s.drops.told ∙ end in cc

  -- no `(` is left
  pub reads-none : w.held ≡ [] → now ≡ Some [] → ReadsNone old left w now
  reads-none none end =
      let empty : rest ≡ [] = ap (λ x. x ++ s.drops.left_now) none ∙ left-none end in
      let all : input ≡ take s.count input = whole ∙ ap (λ x. take s.count input ++ x) empty ∙ append-nil (take s.count input) in
      let size : s.count ≡ length input = sym front-size ∙ ap length (sym all) in
      record {
        read = (read_native-none input 0).1 (ap (list_all is_closed) all ∙ s.closed);
        drops = subst (Drops old left w now) size s.drops;
        end = end;
      }

  module _ (first : next_open 0 w.held ≡ Some 0) where
    opens-at : (k : ℕ) → next_open k rest ≡ Some k
    opens-at k = let b = begins w.held first in rw b.is refl

    opens : next_open 0 input ≡ Some s.count
    opens =
        let b = begins w.held first in
        let size : 0 + length (take s.count input) ≡ s.count = omega (arith, front-size) in
        ap (next_open 0) (whole ∙ ap (λ x. take s.count input ++ (x ++ s.drops.left_now)) b.is) ∙ next_open-append 0 (take s.count input) (b.tail ++ s.drops.left_now) s.closed ∙ ap (λ k. Some k) size

    reads-ended : (n : ℕ) → n ≤ length w.held → first_group_end w.held ≡ Some n → read_native input 0 ≡ moved s.count (read_native (take n w.held) 0)
    reads-ended n few e =
        let ended : first_group_end rest ≡ Some n = (group_end-ends w.held n e).longer s.drops.left_now in
        let closed : closing 1 (suc s.count) (drop (suc s.count) input) ≡ Some (s.count + n) = ap (group_behind input) (sym opens) ∙ group-behind ∙ ap (place_behind s.count) ended in
        let size : s.count + n - s.count ≡ n = omega arith in
        let group : take (s.count + n - s.count) (drop s.count input) ≡ take n w.held = ap (λ k. take k (drop s.count input)) size ∙ ap (take n) (sym s.drops.rest) ∙ take-append-le n w.held s.drops.left_now few in
        (read_native-alone input 0 s.count (s.count + n) opens closed).same ∙ ap (λ g. moved s.count (read_native g 0)) group

    reads-rest : now ≡ Some [] → read_native input 0 ≡ moved s.count (read_native w.held 0)
    reads-rest end =
        let held : drop s.count input ≡ w.held = sym s.drops.rest ∙ ap (λ x. w.held ++ x) (left-none end) ∙ append-nil w.held in
        let low : s.count + 0 ≤ length input = omega (arith, s.drops.few) in
        let here : next_open (s.count + 0) (drop (s.count + 0) input) ≡ Some s.count = ap (λ k. next_open k (drop k input)) zero_more ∙ ap (next_open s.count) (sym s.drops.rest) ∙ opens-at s.count in
        ap (item_at (problem_at input)) (opens ∙ sym here) ∙ read_native-moved input s.count 0 low ∙ ap (λ g. moved s.count (read_native g 0)) held
      where
        zero_more : s.count + 0 ≡ s.count
        zero_more = omega arith

    reads-item : (n : ℕ) → n ≤ length w.held → IsItem w.held n → (first_group_end w.held ≡ None → now ≡ Some []) → read_native input 0 ≡ moved s.count (read_native (take n w.held) 0)
    reads-item n few (inl ended) end = reads-ended n few ended
    reads-item n few (inr open_still) end =
        reads-rest (end open_still.0) ∙ ap (λ g. moved s.count (read_native g 0)) (sym (ap (λ k. take k w.held) open_still.1 ∙ take-length w.held))

    drops-front : (new : HeldBytes) (n : ℕ) → n ≤ length w.held → new ≡ record w { held = drop n w.held; base = w.base + n } → Drops old left new now (s.count + n)
    drops-front new n few is =
        let size : length rest ≡ length input - s.count = ap length s.drops.rest ∙ length-drop s.count input in
        record {
          few = omega (arith, s.drops.few, size, length-append w.held s.drops.left_now);
          base = ap (λ (v : HeldBytes). v.base) is ∙ omega (arith, s.drops.base);
          left_now = s.drops.left_now;
          told = s.drops.told;
          rest =
              ap (λ (v : HeldBytes). v.held ++ s.drops.left_now) is ∙ sym (drop-append-le n w.held s.drops.left_now few) ∙ ap (drop n) s.drops.rest ∙ drop-drop n s.count input ∙ ap (λ k. drop k input) (omega arith);
        }

    spared-by : (n q : ℕ) → HoldsItem w n → (first_group_end w.held ≡ None → now ≡ Some []) → first_group_end input ≡ Some q → taken_by w ≤ old.base + q + 4095
    spared-by n q h end e = by_item h.item
      where
        by_item : IsItem w.held n → taken_by w ≤ old.base + q + 4095
        by_item (inl ended) =
            let there : Some q ≡ Some (s.count + n) = sym e ∙ group-behind ∙ ap (place_behind s.count) ((group_end-ends w.held n ended).longer s.drops.left_now) in
            let same : q ≡ s.count + n = cc in
            omega (arith, same, s.drops.base, h.behind)
        by_item (inr open_still) =
            let held : rest ≡ w.held = ap (λ x. w.held ++ x) (left-none (end open_still.0)) ∙ append-nil w.held in
            let there : Some q ≡ None = sym e ∙ group-behind ∙ ap (place_behind s.count) (ap first_group_end held ∙ open_still.0) in
            absurd cc

    pub item-spared : (n : ℕ) → HoldsItem w n → (first_group_end w.held ≡ None → now ≡ Some []) → IsSpared old left w now
    item-spared n h end = record { rest = s; spared = λ q e. spared-by n q h end e }

    -- the problem is read, and its group is dropped
    pub reads-next : (new : HeldBytes) (P : Problem) (n : ℕ) → n ≤ length w.held → first_group_end w.held ≡ Some n → read_native (take n w.held) 0 ≡ Ok (Some (P, n)) → new ≡ record w { held = drop n w.held; base = w.base + n } → ReadsNext old left new now P n
    reads-next new P n few e r is = record {
      start = s.count;
      opened = opens;
      ended = group-behind ∙ ap (place_behind s.count) ((group_end-ends w.held n e).longer s.drops.left_now);
      read = reads-ended n few e ∙ ap (moved s.count) r;
      drops = drops-front new n few is;
    }

    refused-from : (n : ℕ) → HoldsItem w n → (first_group_end w.held ≡ None → now ≡ Some []) → (o : Option Fault) → IfSome o (λ f. moved w.base (read_native (take n w.held) 0) ≡ Err f) → IfSome o (λ f. moved old.base (read_native input 0) ≡ Err f)
    refused-from n h end None r = tt
    refused-from n h end (Some f) r =
        ap (moved old.base) (reads-item n h.few h.item end) ∙ moved-moved old.base s.count (read_native (take n w.held) 0) ∙ ap (λ k. moved k (read_native (take n w.held) 0)) (sym s.drops.base) ∙ r

    -- its text is refused
    pub refuses-next : (n : ℕ) (e : ReadRefusal) → HoldsItem w n → (first_group_end w.held ≡ None → now ≡ Some []) → IfSome (read_fault e) (λ f. moved w.base (read_native (take n w.held) 0) ≡ Err f) → RefusesNext old left w now e
    refuses-next n e h end r = record { read = refused-from n h end (read_fault e) r; kept = item-spared n h end }

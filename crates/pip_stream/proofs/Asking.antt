-- That the source is called only while the group at hand is open.
use Rattle.pip_stream.proofs.Words.{◌≡◌, refl, sym, ap, subst, ◌∙◌, ℕ, ◌+◌, ◌-◌, ◌<◌, inl, inr, arith, Bool, true, false, List, ◌++◌, length, length-drop, take, take-length, take-append-drop, ◌⊎◌, Option, Some, None, IfSome, Result, Ok, Err, list_all, HeldBytes, is_closed, next_open, group_behind, first_group_end, place_behind, next_open-closed, Problem, AsksWhileOpen, AsksInTurns, CallsFor, Seeks, TakesMore, is_ended, is_there, IsRead, NextRefusal, taken_by, bytes_from, Skips, DropsClosed}
use Rattle.pip_outside.specs.Calls.{Takes, AsksOn, CallsWithin}
use Rattle.pip_outside.proofs.Calls.{takes-none, takes-more, takes-then, asks-none, asks-once, asks-then}
use Rattle.pip_stream.proofs.Dropping.{if-map, if-some, skipped, skips-nothing, skips-more, skips-closed, skips-restart, taken-closed}
use Rattle.pip_stream.proofs.Finding.{group-behind, stays}
use Rattle.pip_stream.proofs.Groups.{group_end-behind}
use Rattle.pip_stream.proofs.Scanned.{ends-later}

-- ---- a window whose source tells

module _ (a : HeldBytes) (left : List ℕ) (w : HeldBytes) (m : Option (List ℕ)) (s : Skips a left w m) (n : ℕ) (ends : first_group_end (bytes_from a left) ≡ Some n) where
  -- a group that is open in the held bytes ends behind them
  ends-behind : first_group_end w.held ≡ None → taken_by w < a.base + n
  ends-behind open_still =
      let o = stays a left w m s (length w.held) (s.count + length w.held) (omega arith) (ap first_group_end (take-length w.held) ∙ open_still) refl in
      let later = ends-later (bytes_from a left) (s.count + length w.held) n o.open_still ends in
      omega (arith, later, s.drops.base)

  -- where the group ends of the bytes behind those that were dropped
  record EndsThere : Type 0 where
    place : ℕ
    ended : first_group_end (bytes_from w s.drops.left_now) ≡ Some place
    is : n ≡ s.count + place

  ends-there : EndsThere
  ends-there = by_end (first_group_end (bytes_from w s.drops.left_now)) refl
    where
      by_end : (o : Option ℕ) → first_group_end (bytes_from w s.drops.left_now) ≡ o → EndsThere
      by_end None e = let none : Some n ≡ None = sym ends ∙ group-behind a left w m s ∙ ap (place_behind s.count) e in absurd cc
      by_end (Some k) e =
          let some : Some n ≡ Some (s.count + k) = sym ends ∙ group-behind a left w m s ∙ ap (place_behind s.count) e in
          record { place = k; ended = e; is = let same : n ≡ s.count + k = cc in same }

module _ {S : Type 0} (Calls : S → S → Type 0) (taken : S → ℕ) where
  -- ---- searches one after the other

  turns-then : (s t u : S) (found : Bool) → Takes Calls taken s t → AsksInTurns Calls taken t u found → AsksInTurns Calls taken s u found
  turns-then s t u true h k = takes-then Calls taken s t u h k
  turns-then s t u false h k = asks-then Calls taken s t u h k

  -- more is asked for while the group is open
  asks-more : (s t u : S) (a w : HeldBytes) (left : List ℕ) (m : Option (List ℕ)) → Skips a left w m → first_group_end w.held ≡ None → taken t + taken_by a ≡ taken s + taken_by w → Takes Calls taken s t → AsksWhileOpen Calls taken s t a left → (u ≡ t) ⊎ Calls t u → AsksWhileOpen Calls taken s u a left
  asks-more s t u a w left m k open_still counted led asked (inl same) = λ n e. subst (λ x. CallsWithin Calls taken s x (length a.held) n) (sym same) (asked n e)
  asks-more s t u a w left m k open_still counted led asked (inr called) = λ n e.
      let behind = ends-behind a left w m k n e open_still in inr (t, led, called, omega (arith, counted, behind))

  asks-while : (s t u : S) (a w : HeldBytes) (left : List ℕ) (m : Option (List ℕ)) (k : Skips a left w m) → taken t + taken_by a ≡ taken s + taken_by w → Takes Calls taken s t → AsksWhileOpen Calls taken s t a left → AsksWhileOpen Calls taken t u w k.drops.left_now → AsksWhileOpen Calls taken s u a left
  asks-while s t u a w left m k counted led asked then = λ n e.
      let h = ends-there a left w m k n e in
      by_call n e h.place h.is (then h.place h.ended)
    where
      by_call : (n : ℕ) → first_group_end (bytes_from a left) ≡ Some n → (q : ℕ) → n ≡ k.count + q → CallsWithin Calls taken t u (length w.held) q → CallsWithin Calls taken s u (length a.held) n
      by_call n e q is (inl same) = subst (λ x. CallsWithin Calls taken s x (length a.held) n) (sym same) (asked n e)
      by_call n e q is (inr c) = inr (c.0, takes-then Calls taken s t c.0 led c.1, c.2, omega (arith, is, c.3, counted, k.drops.base))

  pub seeks-start : (s : S) (a : HeldBytes) (o : Option (List ℕ)) → IfSome o (λ left. Seeks Calls taken s s a a left o true)
  seeks-start s a None = tt
  seeks-start s a (Some left) = record {
    skips = skips-nothing a left;
    calls = record { counted = refl; asked = λ n e. inl refl; turns = takes-none Calls taken s };
  }

  module _ (s t : S) (a w : HeldBytes) (o m : Option (List ℕ)) where
    pub seeks-skips : (found : Bool) → IfSome o (λ left. Seeks Calls taken s t a w left m found) → IfSome o (λ left. Skips a left w m)
    seeks-skips found h = if-map (λ left. Seeks Calls taken s t a w left m found) (λ left. Skips a left w m) o (λ left k. k.skips) h

    pub seeks-calls : (found : Bool) → IfSome o (λ left. Seeks Calls taken s t a w left m found) → IfSome o (λ left. CallsFor Calls taken s t a w left found)
    seeks-calls found h = if-map (λ left. Seeks Calls taken s t a w left m found) (λ left. CallsFor Calls taken s t a w left found) o (λ left k. k.calls) h

  -- the peak does not matter
  pub seeks-restart : (s t : S) (a start w : HeldBytes) (p : ℕ) (o m : Option (List ℕ)) (found : Bool) → start ≡ record a { peak = p } → IfSome o (λ left. Seeks Calls taken s t start w left m found) → IfSome o (λ left. Seeks Calls taken s t a w left m found)
  seeks-restart s t a start w p None m found e h = tt
  seeks-restart s t a start w p (Some left) m found e h =
      let k = subst (λ x. Seeks Calls taken s t x w left m found) e h in
      record {
        skips = skips-restart a w p left m k.skips;
        calls = record { counted = k.calls.counted; asked = k.calls.asked; turns = k.calls.turns };
      }

  -- bytes are dropped before a `(`
  pub seeks-closed : (s t : S) (a w v : HeldBytes) (o m : Option (List ℕ)) (b found : Bool) → IfSome o (λ left. Seeks Calls taken s t a w left m b) → DropsClosed w v found → IfSome o (λ left. Seeks Calls taken s t a v left m b)
  seeks-closed s t a w v None m b found h d = tt
  seeks-closed s t a w v (Some left) m b found h d = record {
    skips = skips-closed a w v found left m h.skips d;
    calls = record { counted = omega (arith, h.calls.counted, taken-closed w v found d); asked = h.calls.asked; turns = h.calls.turns };
  }

  -- one call more
  module _ (s t u : S) (a w v : HeldBytes) (m l : Option (List ℕ)) (open_still : first_group_end w.held ≡ None) (more : IfSome m (λ left. TakesMore taken t u w v left l)) (called : (u ≡ t) ⊎ Calls t u) where
    more-told : (left : List ℕ) (h : Seeks Calls taken s t a w left m true) → TakesMore taken t u w v h.skips.drops.left_now l
    more-told left h = if-some (λ x. TakesMore taken t u w v x l) m h.skips.drops.left_now h.skips.drops.told more

    seeks-by : (left : List ℕ) (h : Seeks Calls taken s t a w left m true) (found : Bool) → AsksInTurns Calls taken s u found → Seeks Calls taken s u a v left l found
    seeks-by left h found turns =
        let k = more-told left h in
        record {
          skips = skips-more a w v left m l h.skips k.drops;
          calls = record {
            counted = omega (arith, h.calls.counted, k.counted);
            asked = asks-more s t u a w left m h.skips open_still h.calls.counted h.calls.turns h.calls.asked called;
            turns = turns;
          };
        }

    pub seeks-last : (o : Option (List ℕ)) → IfSome o (λ left. Seeks Calls taken s t a w left m true) → IfSome o (λ left. Seeks Calls taken s u a v left l false)
    seeks-last None h = tt
    seeks-last (Some left) h = seeks-by left h false (asks-once Calls taken s t u h.calls.turns called)

    pub seeks-more : (o : Option (List ℕ)) → taken_by w < taken_by v → IfSome o (λ left. Seeks Calls taken s t a w left m true) → IfSome o (λ left. Seeks Calls taken s u a v left l true)
    seeks-more None some h = tt
    seeks-more (Some left) some h =
        let k = more-told left h in
        seeks-by left h true (takes-more Calls taken s t u h.calls.turns called (omega (arith, k.counted, some)))

  pub seeks-then : (s t u : S) (a w v : HeldBytes) (o m l : Option (List ℕ)) (found : Bool) → IfSome o (λ left. Seeks Calls taken s t a w left m true) → IfSome m (λ left. Seeks Calls taken t u w v left l found) → IfSome o (λ left. Seeks Calls taken s u a v left l found)
  seeks-then s t u a w v None m l found h then = tt
  seeks-then s t u a w v (Some left) m l found h then =
      let k = if-some (λ x. Seeks Calls taken t u w v x l found) m h.skips.drops.left_now h.skips.drops.told then in
      record {
        skips = skipped a w v left m l h.skips k.skips.count k.skips.drops k.skips.closed;
        calls = record {
          counted = omega (arith, h.calls.counted, k.calls.counted);
          asked = asks-while s t u a w left m h.skips h.calls.counted h.calls.turns h.calls.asked k.calls.asked;
          turns = turns-then s t u found h.calls.turns k.calls.turns;
        };
      }

  -- ---- the item is read

  pub turns-any : (s u : S) (b : Bool) → AsksInTurns Calls taken s u b → AsksOn Calls taken s u
  turns-any s u true h = asks-none Calls taken s u h
  turns-any s u false h = h

  turns-item : (s u : S) (w v : HeldBytes) (n : ℕ) (r : Result (Option (Problem × ℕ)) NextRefusal) → IsRead w v n r → AsksInTurns Calls taken s u (is_ended {E = NextRefusal} (Ok n) (first_group_end w.held)) → AsksInTurns Calls taken s u (is_there r)
  turns-item s u w v n (Ok (Some x)) k h = subst (λ g. AsksInTurns Calls taken s u (is_ended {E = NextRefusal} (Ok n) g)) k.1 h
  turns-item s u w v n (Ok None) k h = absurd k
  turns-item s u w v n (Err e) k h = turns-any s u (is_ended {E = NextRefusal} (Ok n) (first_group_end w.held)) h

  pub calls-item : (s u : S) (a w v : HeldBytes) (n : ℕ) (r : Result (Option (Problem × ℕ)) NextRefusal) (o m : Option (List ℕ)) → IsRead w v n r → taken_by v ≡ taken_by w → IfSome o (λ left. Seeks Calls taken s u a w left m (is_ended {E = NextRefusal} (Ok n) (first_group_end w.held))) → IfSome o (λ left. CallsFor Calls taken s u a v left (is_there r))
  calls-item s u a w v n r None m k same h = tt
  calls-item s u a w v n r (Some left) m k same h = record {
    counted = omega (arith, h.calls.counted, same);
    asked = h.calls.asked;
    turns = turns-item s u w v n r k h.calls.turns;
  }

-- ---- a group that is held

-- all held bytes were dropped, as no `(` is among them
pub closed-none : (w v : HeldBytes) → DropsClosed w v false → next_open 0 w.held ≡ None
closed-none w v d =
    let size : length v.held ≡ length w.held - d.count = ap (λ (x : HeldBytes). length x.held) d.is ∙ length-drop d.count w.held in
    let all : d.count ≡ length w.held = omega (arith, size, ap length d.open_now, d.few) in
    let closed : list_all is_closed w.held ≡ true = ap (list_all is_closed) (sym (ap (λ n. take n w.held) all ∙ take-length w.held)) ∙ d.closed in
    next_open-closed 0 w.held closed

pub held-restart : (w v : HeldBytes) (p : ℕ) → v ≡ record w { peak = p } → ¬ (first_group_end w.held ≡ None) → ¬ (first_group_end v.held ≡ None)
held-restart w v p e some none = some (ap (λ (x : HeldBytes). first_group_end x.held) (sym e) ∙ none)

pub held-opens : (w : HeldBytes) → ¬ (first_group_end w.held ≡ None) → ¬ (next_open 0 w.held ≡ None)
held-opens w some none = some (ap (group_behind w.held) none)

-- the group ends in what is held behind dropped bytes
pub held-ends : (w v : HeldBytes) → DropsClosed w v true → ¬ (first_group_end w.held ≡ None) → ¬ (first_group_end v.held ≡ None)
held-ends w v d some none =
    let held : w.held ≡ take d.count w.held ++ v.held = sym (take-append-drop d.count w.held) ∙ ap (λ x. take d.count w.held ++ x) (sym (ap (λ (x : HeldBytes). x.held) d.is)) in
    some (ap first_group_end held ∙ group_end-behind (take d.count w.held) v.held d.closed ∙ ap (place_behind (length (take d.count w.held))) none)

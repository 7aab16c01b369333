-- The problem that is read of an item's bytes.
use Rattle.pip_stream.proofs.Words.{◌≡◌, sym, ap, ◌∙◌, ℕ, zero, suc, ◌+◌, ◌<◌, ◌≤◌, inl, inr, arith, List, ◌∷◌, length, take, drop, take-length, Option, Some, None, IfOk, IfSome, Result, Ok, Err, HeldBytes, Problem, Ended, Fault, next_open, read_native, read_fault, ReadRefusal, group_behind, first_group_end, next_open-closed, read_native-none, read_native-ends, IsItem, HoldsItem, IsRead}
use Rattle.pip_problem.specs.declared.refusal.ReadRefusal.TheVariants as read
use Rattle.pip_reader.proofs.FaultPlaces.{read_native-fault}
use Rattle.pip_stream.specs.Refusals.{place_told}
use Rattle.pip_stream.proofs.Groups.{group_end-ends}
use Rattle.pip_stream.proofs.Scanned.{begins, begins_some}

-- ---- the place of a fault

pub place-within : (bytes : List ℕ) (e : ReadRefusal) → IfSome (read_fault e) (λ f. read_native bytes 0 ≡ Err f) → place_told e ≤ length bytes
place-within bytes (read.Syntax place) h = rw h at (read_native-fault bytes 0 (omega arith))
place-within bytes (read.Wide place) h = rw h at (read_native-fault bytes 0 (omega arith))
place-within bytes e h = omega arith

-- ---- the end of what is read

pub ended-by : (bytes : List ℕ) (x : Problem × ℕ) (r : Result (Option (Problem × ℕ)) Fault) → IfOk r (λ o. IfSome o (λ y. Ended bytes 0 y.1)) → r ≡ Ok (Some x) → first_group_end bytes ≡ Some x.1
ended-by bytes x r h e = let k = rw e at h in ap (group_behind bytes) k.opened ∙ k.closed

module _ (w : HeldBytes) (n : ℕ) (first : next_open 0 w.held ≡ Some 0) (h : HoldsItem w n) where
  some : 0 < n
  some = by_item h.item
    where
      by_item : IsItem w.held n → 0 < n
      by_item (inl ended) = let e = group_end-ends w.held n ended in omega (arith, e.low)
      by_item (inr open_still) = omega (arith, begins_some w.held first, open_still.1)

  front : next_open 0 (take n w.held) ≡ Some 0
  front = let b = begins w.held first in by_count n some b.tail b.is
    where
      by_count : (k : ℕ) → 0 < k → (tail : List ℕ) → w.held ≡ 40 ∷ tail → next_open 0 (take k w.held) ≡ Some 0
      by_count zero low tail is = absurd (omega (arith, low))
      by_count (suc k) low tail is = ap (λ x. next_open 0 (take (suc k) x)) is

  none : read_native (take n w.held) 0 ≡ Ok None → ⊥
  none e =
      let closed = (read_native-none (take n w.held) 0).0 e in
      let gone : next_open 0 (take n w.held) ≡ None = next_open-closed 0 (take n w.held) closed in
      let here = front in
      cc

  ends : (x : Problem × ℕ) → read_native (take n w.held) 0 ≡ Ok (Some x) → (x.1 ≡ n) × (first_group_end w.held ≡ Some n)
  ends x e = by_item h.item
    where
      group : first_group_end (take n w.held) ≡ Some x.1
      group = ended-by (take n w.held) x (read_native (take n w.held) 0) (read_native-ends (take n w.held) 0) e

      by_item : IsItem w.held n → (x.1 ≡ n) × (first_group_end w.held ≡ Some n)
      by_item (inl ended) =
          let there : Some x.1 ≡ Some n = sym group ∙ (group_end-ends w.held n ended).alone in
          let same : x.1 ≡ n = cc in
          (same, ended)
      by_item (inr open_still) =
          let all : take n w.held ≡ w.held = ap (λ k. take k w.held) open_still.1 ∙ take-length w.held in
          let there : Some x.1 ≡ None = sym group ∙ ap first_group_end all ∙ open_still.0 in
          absurd cc

  pub taken : (new : HeldBytes) (o : Option (Problem × ℕ)) → read_native (take n w.held) 0 ≡ Ok o → new ≡ record w { held = drop n w.held; base = w.base + n } → IsRead w new n (Ok o)
  taken new None e is = none e
  taken new (Some x) e is = let k = ends x e in (k.0, k.1, e ∙ ap (λ p. Ok (Some (x.0, p))) k.0, is)

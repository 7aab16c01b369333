-- What a call for the next problem finds, by the step that ends it.
use Rattle.pip_stream.proofs.Words.{◌≡◌, refl, sym, ap, subst, ◌∙◌, ℕ, ◌+◌, ◌-◌, ◌<◌, ◌≤◌, arith, false, List, [], length, length-drop, drop, take-length, Option, Some, None, IfSome, Result, Ok, Err, HeldBytes, most_input_bytes, Problem, next_open, first_group_end, taken_by, Skips, IsOpened, HoldsItem, IsEnded, IsRead, ReadsNext, IsSpared, RefusesNext, FindsNext, LeavesWindow, TakesTo, NextRefusal}
use Rattle.std.specs.Io.KnownBytes.{IsAtEnd}
use Rattle.pip_stream.specs.declared.refusal.NextRefusal.TheVariants as next
use Rattle.pip_stream.proofs.Dropping.{if-map}
use Rattle.pip_stream.proofs.Groups.{group_end-ends}
use Rattle.pip_stream.proofs.Scanned.{begins_some}
use Rattle.pip_stream.proofs.Finding.{stays, open-spared, item-spared, reads-none, reads-next, refuses-next}

abbrev Found : Type 0
Found = Option (Problem × ℕ)

-- a source that tells is at its end
at-end : (old w : HeldBytes) (left : List ℕ) (m : Option (List ℕ)) → Skips old left w m → IsAtEnd m → m ≡ Some []
at-end old w left None s h = absurd (let e = s.drops.told in cc)
at-end old w left (Some xs) s h = ap Some h

-- ---- no `(` is found

opened-finds : (old w : HeldBytes) (left : List ℕ) (m : Option (List ℕ)) (e : NextRefusal) → Skips old left w m → IsOpened w (Err e) → FindsNext old left w m (Err e)
opened-finds old w left m next.InputBytes s h = stays old left w m s 0 _ (omega arith) refl (omega (arith, s.drops.base, h.0, h.1))
opened-finds old w left m next.Failed s h = stays old left w m s 0 _ (omega arith) refl (omega (arith, s.drops.base, ap length h.0))
opened-finds old w left m next.WantOfMemory s h = open-spared old left w m s (ap first_group_end h.0)
opened-finds old w left m (next.Read e) s h = absurd h.1

pub finds-unopened : (old w : HeldBytes) (o m : Option (List ℕ)) (e : NextRefusal) → IfSome o (λ left. Skips old left w m) → IsOpened w (Err e) → IfSome o (λ left. FindsNext old left w m (Err e))
finds-unopened old w o m e s h = if-map (λ left. Skips old left w m) (λ left. FindsNext old left w m (Err e)) o (λ left k. opened-finds old w left m e k h) s

pub finds-none : (old w : HeldBytes) (o m : Option (List ℕ)) → IfSome o (λ left. Skips old left w m) → w.held ≡ [] → IsAtEnd m → IfSome o (λ left. FindsNext old left w m (Ok None))
finds-none old w o m s h e = if-map (λ left. Skips old left w m) (λ left. FindsNext old left w m (Ok None)) o (λ left k. reads-none old left w m k h (at-end old w left m k e)) s

-- ---- the window behind a refusal, or the input's end

abbrev pub AtLimit : NextRefusal → HeldBytes → Type 0
AtLimit e w = (taken_by w ≤ most_input_bytes + 1) × (e ≡ next.InputBytes → most_input_bytes < taken_by w) × (most_input_bytes < taken_by w → e ≡ next.InputBytes)

pub leaves-by : (old w : HeldBytes) (e : NextRefusal) → old.base ≤ w.base → AtLimit e w → LeavesWindow old w (Err e)
leaves-by old w e base h = record {
  ready = tt;
  peak = tt;
  dropped = tt;
  base = base;
  bound = h.0;
  limit = (λ p. h.1 (let same : e ≡ next.InputBytes = cc in same), λ p. ap (λ x. Err x) (h.2 p));
}

pub limit-by : (w : HeldBytes) (e : NextRefusal) → TakesTo w e → AtLimit e w
limit-by w next.InputBytes h = (omega (arith, h), λ _. omega (arith, h), λ _. refl)
limit-by w (next.Read e) h = absurd h
limit-by w e h = (omega (arith, h), λ p. absurd cc, λ p. absurd (omega (arith, h, p)))

pub none-leaves : (old w : HeldBytes) → old.base ≤ w.base → IsOpened w (Ok false) → LeavesWindow old w (Ok None)
none-leaves old w base h = record {
  ready = record { few = omega (arith, ap length h.0); within = h.1.within };
  peak = h.1.peak;
  dropped = tt;
  base = base;
  bound = omega (arith, h.1.within);
  limit = (λ e. absurd cc, λ p. absurd (omega (arith, h.1.within, p)));
}

-- ---- the group does not end

ended-finds : (old w : HeldBytes) (left : List ℕ) (m : Option (List ℕ)) (e : NextRefusal) → Skips old left w m → next_open 0 w.held ≡ Some 0 → IsEnded w (Err e) → FindsNext old left w m (Err e)
ended-finds old w left m next.InputBytes s first h = stays old left w m s (length w.held - 1) _ (omega arith) h.0 (omega (arith, s.drops.base, h.1, begins_some w.held first))
ended-finds old w left m next.Failed s first h =
    stays old left w m s (length w.held) _ (omega arith) (ap first_group_end (take-length w.held) ∙ h.0) (omega (arith, s.drops.base))
ended-finds old w left m next.WantOfMemory s first h = open-spared old left w m s h.0
ended-finds old w left m (next.Read e) s first h = absurd h.1

pub finds-unended : (old w : HeldBytes) (o m : Option (List ℕ)) (e : NextRefusal) → IfSome o (λ left. Skips old left w m) → next_open 0 w.held ≡ Some 0 → IsEnded w (Err e) → IfSome o (λ left. FindsNext old left w m (Err e))
finds-unended old w o m e s first h = if-map (λ left. Skips old left w m) (λ left. FindsNext old left w m (Err e)) o (λ left k. ended-finds old w left m e k first h) s

-- ---- the item is read

taken-finds : (old w v : HeldBytes) (left : List ℕ) (m : Option (List ℕ)) (n : ℕ) (r : Result Found NextRefusal) → Skips old left w m → next_open 0 w.held ≡ Some 0 → HoldsItem w n → (first_group_end w.held ≡ None → IsAtEnd m) → IsRead w v n r → FindsNext old left v m r
taken-finds old w v left m n (Ok (Some x)) s first h end k =
    subst (λ i. ReadsNext old left v m x.0 i) (sym k.0) (reads-next old left w m s first v x.0 n h.few k.1 k.2 k.3)
taken-finds old w v left m n (Ok None) s first h end k = absurd k
taken-finds old w v left m n (Err (next.Read e)) s first h end k =
    subst (λ x. RefusesNext old left x m e) (sym k.1) (refuses-next old left w m s first n e h (λ none. at-end old w left m s (end none)) k.0)
taken-finds old w v left m n (Err next.WantOfMemory) s first h end k =
    subst (λ x. IsSpared old left x m) (sym k) (item-spared old left w m s first n h (λ none. at-end old w left m s (end none)))
taken-finds old w v left m n (Err e) s first h end k = absurd k

pub finds-item : (old w v : HeldBytes) (o m : Option (List ℕ)) (n : ℕ) (r : Result Found NextRefusal) → IfSome o (λ left. Skips old left w m) → next_open 0 w.held ≡ Some 0 → HoldsItem w n → (first_group_end w.held ≡ None → IsAtEnd m) → IsRead w v n r → IfSome o (λ left. FindsNext old left v m r)
finds-item old w v o m n r s first h end k = if-map (λ left. Skips old left w m) (λ left. FindsNext old left v m r) o (λ left x. taken-finds old w v left m n r x first h end k) s

-- the window, whatever is read
module _ (w v : HeldBytes) (n : ℕ) (h : HoldsItem w n) where
  -- the item is dropped
  record Dropped : Type 0 where
    held : length v.held ≡ length w.held - n
    base : v.base ≡ w.base + n
    peak : v.peak ≡ w.peak

  dropped : v ≡ record w { held = drop n w.held; base = w.base + n } → Dropped
  dropped is = record {
    held = ap (λ (x : HeldBytes). length x.held) is ∙ length-drop n w.held;
    base = ap (λ (x : HeldBytes). x.base) is;
    peak = ap (λ (x : HeldBytes). x.peak) is;
  }

  pub item-taken : (r : Result Found NextRefusal) → IsRead w v n r → (taken_by v ≡ taken_by w) × (w.base ≤ v.base)
  item-taken (Ok (Some x)) k = let d = dropped k.3 in (omega (arith, d.held, d.base, h.few), omega (arith, d.base))
  item-taken (Ok None) k = absurd k
  item-taken (Err (next.Read e)) k = (ap (λ (x : HeldBytes). taken_by x) k.1, omega (arith, ap (λ (x : HeldBytes). x.base) k.1))
  item-taken (Err next.WantOfMemory) k = (ap (λ (x : HeldBytes). taken_by x) k, omega (arith, ap (λ (x : HeldBytes). x.base) k))
  item-taken (Err e) k = absurd k

  -- the window, for the next call
  pub item-leaves : (old : HeldBytes) → old.base ≤ w.base → (r : Result Found NextRefusal) → IsRead w v n r → LeavesWindow old v r
  item-leaves old low (Ok None) k = absurd k
  item-leaves old low (Ok (Some x)) k =
      let d = dropped k.3 in
      let e = group_end-ends w.held n k.1 in
      record {
        ready = record { few = omega (arith, d.held, h.behind); within = omega (arith, d.held, d.base, h.few, h.within) };
        peak = omega (arith, d.peak, h.peak, k.0);
        dropped = (omega (arith, k.0, e.low), omega (arith, k.0, d.base, low));
        base = omega (arith, d.base, low);
        bound = omega (arith, d.held, d.base, h.few, h.within);
        limit = (λ p. absurd cc, λ p. absurd (omega (arith, p, d.held, d.base, h.few, h.within)));
      }
  item-leaves old low (Err e) k =
      let t = item-taken (Err e) k in
      record {
        ready = tt;
        peak = tt;
        dropped = tt;
        base = omega (arith, low, t.1);
        bound = omega (arith, t.0, h.within);
        limit = (λ p. absurd (subst (IsRead w v n) p k), λ p. absurd (omega (arith, p, t.0, h.within)));
      }

  pub item-not_none : (r : Result Found NextRefusal) → IsRead w v n r → r ≡ Ok None → ⊥
  item-not_none r k e = subst (IsRead w v n) e k

  pub item-not_failed : (r : Result Found NextRefusal) → IsRead w v n r → r ≡ Err next.Failed → ⊥
  item-not_failed r k e = subst (IsRead w v n) e k

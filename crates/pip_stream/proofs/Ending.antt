-- The window where the search for the end of a group ends, and where it goes on.
use Rattle.pip_stream.proofs.Words.{◌≡◌, refl, sym, ap, subst, ◌∙◌, ℕ, ◌+◌, ◌-◌, ◌<◌, ◌≤◌, inl, inr, arith, List, ◌++◌, length, length-append, length-take, take, drop, take-append-drop, take_at, append-nil, nil_from_length, Some, None, Ok, Err, HeldBytes, most_input_bytes, next_open, first_group_end, IsScanned, place_behind, taken_by, Grows, IsMore, HoldsItem, IsEnded, NextRefusal}
use Rattle.pip_stream.specs.declared.refusal.NextRefusal.TheVariants as next
use Rattle.pip_stream.proofs.Groups.{group_end-ends}
use Rattle.pip_stream.proofs.Scanned.{open-longer, ends-later}
use Rattle.pip_stream.proofs.Steps.{some_more}

-- ---- what a scan finds

pub scan-end : (held piece : List ℕ) (seen after : ℕ) → seen ≤ length held → piece ≡ drop seen held → place_behind (length (take seen held)) (Some after) ≡ first_group_end (take seen held ++ piece) → first_group_end held ≡ Some (seen + after)
scan-end held piece seen after low is e =
    let size : length (take seen held) ≡ seen = simp length-take (omega arith) in
    let all : take seen held ++ piece ≡ held = ap (λ x. take seen held ++ x) is ∙ take-append-drop seen held in
    ap first_group_end (sym all) ∙ sym e ∙ ap (λ n. Some (n + after)) size

pub scan-none : (held piece : List ℕ) (seen d : ℕ) → piece ≡ drop seen held → IsScanned (take seen held ++ piece) d → IsScanned held d
scan-none held piece seen d is h = subst (λ x. IsScanned x d) (ap (λ x. take seen held ++ x) is ∙ take-append-drop seen held) h

-- the group is ended
pub holds-ended : (w : HeldBytes) (seen d after : ℕ) → IsScanned (take seen w.held) d → first_group_end w.held ≡ Some (seen + after) → length w.held ≤ seen + 4096 → w.peak ≤ seen + 4096 → taken_by w ≤ most_input_bytes → HoldsItem w (seen + after)
holds-ended w seen d after h e few peak within =
    let later = ends-later w.held seen (seen + after) h.not_ended e in
    let at = group_end-ends w.held (seen + after) e in
    record { item = inl e; few = at.high; behind = omega (arith, later, few); peak = omega (arith, later, peak); within = within }

-- ---- more bytes

module _ (w u : HeldBytes) where
  none-came : (k : ℕ) → IsMore w u (Ok k) → k ≡ 0 → u.held ≡ w.held
  none-came k m zero =
      let none : length m.0.piece ≡ 0 = omega (arith, m.0.count, zero) in
      m.0.held ∙ ap (λ x. w.held ++ x) (nil_from_length m.0.piece none) ∙ append-nil w.held

  -- the input ends
  pub rest-open : (k d : ℕ) → IsScanned w.held d → IsMore w u (Ok k) → k ≡ 0 → first_group_end u.held ≡ None
  rest-open k d h m zero = ap first_group_end (none-came k m zero) ∙ h.not_ended

  pub holds-rest : (n k d seen : ℕ) → IsScanned w.held d → IsMore w u (Ok k) → k ≡ 0 → n ≡ length w.held → seen < length w.held → w.peak ≤ seen + 4096 → HoldsItem u n
  holds-rest n k d seen h m zero is some peak =
      let s = some_more w u k m in
      let same : u.held ≡ w.held = none-came k m zero in
      record {
        item = inr (rest-open k d h m zero, is ∙ ap length (sym same));
        few = omega (arith, is, ap length same);
        behind = omega (arith, is, ap length same);
        peak = s.peak_high (n + 4095) (omega (arith, peak, some, is)) (omega (arith, is, ap length same));
        within = s.within;
      }

  front : (n : ℕ) → Grows w u n → take (length w.held) u.held ≡ w.held
  front n g = ap (take (length w.held)) g.held ∙ take_at w.held g.piece (length w.held) refl

  -- bytes came
  pub scanned-front : (n k d : ℕ) → IsScanned w.held d → IsMore w u (Ok k) → n ≡ length w.held → IsScanned (take n u.held) d
  scanned-front n k d h m is = subst (λ x. IsScanned x d) (sym (ap (λ i. take i u.held) is ∙ front k m.0)) h

  pub more-open : (k : ℕ) → next_open 0 w.held ≡ Some 0 → IsMore w u (Ok k) → next_open 0 u.held ≡ Some 0
  more-open k h m = ap (next_open 0) m.0.held ∙ open-longer w.held m.0.piece h

  -- no more came, or the one byte too many
  pub err-open : (e : NextRefusal) → next_open 0 w.held ≡ Some 0 → IsMore w u (Err e) → next_open 0 u.held ≡ Some 0
  err-open next.InputBytes h m = ap (next_open 0) m.0.held ∙ open-longer w.held m.0.piece h
  err-open (next.Read e) h m = absurd m
  err-open e h m = ap (λ (x : HeldBytes). next_open 0 x.held) m ∙ h

  pub ended-err : (e : NextRefusal) (d : ℕ) → IsScanned w.held d → taken_by w ≤ most_input_bytes → IsMore w u (Err e) → IsEnded u (Err e)
  ended-err next.InputBytes d h within m =
      let size : length u.held - 1 ≡ length w.held = omega (arith, ap length m.0.held, length-append w.held m.0.piece, m.0.count) in
      (ap (λ i. first_group_end (take i u.held)) size ∙ ap first_group_end (front 1 m.0) ∙ h.not_ended, m.1)
  ended-err (next.Read e) d h within m = absurd m
  ended-err e d h within m =
      (ap (λ (x : HeldBytes). first_group_end x.held) m ∙ h.not_ended, omega (arith, ap (λ (x : HeldBytes). taken_by x) m, within))

-- Values up to a closing bracket, by the next one.
use Rattle.leaf_certificate.proofs.Words.{◌≡◌, ◌∙◌, refl, sym, ap, ℕ, zero, suc, ◌+◌, ◌-◌, ◌<◌, ◌≤◌, arith, sub-one, true, false, Ok, Err, List, [], ◌∷◌, ◌++◌, length, append-nil, length-append, Option, IfSome, token, Fault, Reads, same_bracket, up_to}
use Rattle.pip_model.specs.declared.Kind.{Kind}
use Rattle.text_reading.specs.Fronts.{with_front}
use Rattle.text_reading.proofs.Fronts.{one_more, step_more, refused_more}

-- These values are read from a place on, and the next one stands at `at`.
pub record Reaches {A : Type 0} (bytes : List ℕ) (close : Kind) (read : ℕ → Reads A) (place : ℕ) (front : List A) (at : ℕ) : Type 0 where
  pub so_far : with_front front (up_to bytes close read (length bytes - length front) at) ≡ up_to bytes close read (length bytes) place
  pub count : length front + place ≤ at
  pub high : at ≤ length bytes

module _ {A : Type 0} (bytes : List ℕ) (close : Kind) (read : ℕ → Reads A) where
  up_to_more : (left p : ℕ) → 0 < left → same_bracket (token bytes p).kind close ≡ false → up_to bytes close read left p ≡ one_more (read p) (λ at. up_to bytes close read (left - 1) at)
  up_to_more zero p h open_at = absurd (omega arith)
  up_to_more (suc left) p h open_at = rw (open_at, sub-one) refl

  up_to_end : (left p : ℕ) → 0 < left → same_bracket (token bytes p).kind close ≡ true → up_to bytes close read left p ≡ Ok ([], (token bytes p).after)
  up_to_end zero p h closed = absurd (omega arith)
  up_to_end (suc left) p h closed = rw closed refl

module _ {A : Type 0} {bytes : List ℕ} {close : Kind} {read : ℕ → Reads A} {place : ℕ} {front : List A} {at : ℕ} (some : 0 < place) (r : Reaches bytes close read place front at) where
  pub reaches_next : {x : A} {after : ℕ} → same_bracket (token bytes at).kind close ≡ false → read at ≡ Ok (x, after) → at < after → after ≤ length bytes → Reaches bytes close read place (front ++ x ∷ []) after
  reaches_next {x = x} {after = after} open_at one low high =
      let size : length (front ++ x ∷ []) ≡ length front + 1 = simp length-append refl in
      let left : length bytes - (length front + 1) ≡ length bytes - length front - 1 = omega arith in
      let by = up_to_more bytes close read (length bytes - length front) at (omega (arith, r.count, r.high)) open_at in
      record {
        so_far = rw (size, left) (step_more front x after (read at) (λ p. up_to bytes close read (length bytes - length front - 1) p) _ _ by r.so_far one);
        count = rw size (omega (arith, r.count));
        high = high;
      }

  pub reaches_end : same_bracket (token bytes at).kind close ≡ true → up_to bytes close read (length bytes) place ≡ Ok (front, (token bytes at).after)
  reaches_end closed =
      let ends = up_to_end bytes close read (length bytes - length front) at (omega (arith, r.count, r.high)) closed in
      sym r.so_far ∙ ap (with_front front) ends ∙ ap (λ (xs : List A). Ok (xs, (token bytes at).after)) (append-nil front)

  pub reaches_refused : (fault : Option Fault) → same_bracket (token bytes at).kind close ≡ false → IfSome fault (λ f. read at ≡ Err f) → IfSome fault (λ f. up_to bytes close read (length bytes) place ≡ Err f)
  reaches_refused fault open_at h =
      let by = up_to_more bytes close read (length bytes - length front) at (omega (arith, r.count, r.high)) open_at in
      refused_more fault front (read at) (λ p. up_to bytes close read (length bytes - length front - 1) p) _ _ by r.so_far h

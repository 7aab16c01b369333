-- The end of the first group of a text, piece by piece.
use Rattle.pip_reader.proofs.Words.{◌≡◌, ◌≢◌, ◌∙◌, refl, sym, ap, ℕ, zero, suc, ◌+◌, ◌-◌, ◌<◌, ◌≤◌, false, ◌⊎◌, inl, inr, List, [], ◌∷◌, ◌++◌, length, drop, append_assoc, add-one, zero-add, drop-cons, take, arith, length_push, take_more, length-take-le, drop-drop, take-append-drop, Option, Some, None, IfNone, fold, slice_index, ◌==◌, All, open_after, closing, next_open, NoBracket, group_behind, first_group_end, group_end_from, IsScanned, place_behind, ne_eqb, cases_Bool, cases_eq, other_byte}
use Rattle.std.proofs.lemmas.List.{length-drop}
use Rattle.std.proofs.Math.Seq.{take-add}
use Rattle.std.proofs.lemmas.List.Sums.{fold-append}

from_closing : (now place : ℕ) (bs : List ℕ) → (now == 0) ≡ false → group_end_from now place bs ≡ closing now place bs
from_closing zero place bs e = cc
from_closing (suc d) place [] e = refl
from_closing (suc d) place (b ∷ bs) e = refl

not_open : (b : ℕ) → (b == 40) ≡ false → open_after 0 b ≡ 0
not_open b e = rw e (elim (cases_Bool (b == 41)) [ inl closed ↦ rw closed refl | inr other ↦ rw other refl ])

-- a byte that does not end the search leaves it to the bytes behind
step_on : (depth place b : ℕ) (bs : List ℕ) → (depth ≡ 0) ⊎ (open_after depth b ≢ 0) → group_end_from depth place (b ∷ bs) ≡ group_end_from (open_after depth b) (suc place) bs
step_on zero place b bs h = elim (cases_Bool (b == 40)) [ inl open_one ↦ rw open_one (sym (from_closing 1 (suc place) bs refl)) | inr other ↦ rw (not_open b other, other) refl ]
step_on (suc d) place b bs h =
    elim h [
      | inl none ↦ absurd (omega (arith, none))
      | inr some ↦ let e = ne_eqb (open_after (suc d) b) 0 some in rw e (sym (from_closing (open_after (suc d) b) (suc place) bs e))
    ]

-- a byte ends the search, or leaves it to the bytes behind
abbrev Step : ℕ → ℕ → ℕ → Type 0
Step depth place b = ((bs : List ℕ) → group_end_from depth place (b ∷ bs) ≡ Some (suc place)) ⊎ ((bs : List ℕ) → group_end_from depth place (b ∷ bs) ≡ group_end_from (open_after depth b) (suc place) bs)

step : (depth place b : ℕ) → Step depth place b
step zero place b = inr (λ bs. step_on zero place b bs (inl refl))
step (suc d) place b =
    elim (cases_eq (open_after (suc d) b) 0) [ inl ended ↦ inl (λ bs. rw ended refl) | inr more ↦ inr (λ bs. step_on (suc d) place b bs (inr more)) ]

pub end_more : (depth now i : ℕ) (xs : List ℕ) → i < length xs → now ≡ open_after depth (slice_index xs i) → (depth ≡ 0) ⊎ (now ≢ 0) → group_end_from depth i (drop i xs) ≡ group_end_from now (i + 1) (drop (i + 1) xs)
end_more depth now i xs h e goes_on =
    let some : (depth ≡ 0) ⊎ (open_after depth (slice_index xs i) ≢ 0) = elim goes_on [ inl none ↦ inl none | inr more ↦ inr (λ ended. more (e ∙ ended)) ] in
    rw (drop-cons xs i 0 h, add-one) (step_on depth i (slice_index xs i) (drop (suc i) xs) some ∙ ap (λ k. group_end_from k (suc i) (drop (suc i) xs)) (sym e))

pub fold_more : (start now i : ℕ) (xs : List ℕ) → i < length xs → now ≡ open_after (fold open_after start (take i xs)) (slice_index xs i) → now ≡ fold open_after start (take (i + 1) xs)
fold_more start now i xs h e = rw (take_more xs i 0 h, fold-append open_after start (take i xs) (slice_index xs i ∷ [])) e

-- a byte that is no bracket leaves the depth
-- behind bytes that hold no end
end-append : (depth place : ℕ) (xs ys : List ℕ) → group_end_from depth place xs ≡ None → group_end_from depth place (xs ++ ys) ≡ group_end_from (fold open_after depth xs) (place + length xs) ys
end-append depth place [] ys h = let e : place + 0 ≡ place = omega arith in rw e refl
end-append depth place (b ∷ xs) ys h =
    elim (step depth place b) [
      | inl stops ↦ let e = stops xs in cc
      | inr more ↦
          let e : suc place + length xs ≡ place + suc (length xs) = omega arith in
          more (xs ++ ys) ∙ end-append (open_after depth b) (suc place) xs ys (sym (more xs) ∙ h) ∙ ap (λ p. group_end_from (fold open_after (open_after depth b) xs) p ys) e
    ]

pub closing-moved : (n depth place : ℕ) (bs : List ℕ) → closing depth (n + place) bs ≡ place_behind n (closing depth place bs)
closing-moved n depth place [] = refl
closing-moved n depth place (b ∷ bs) =
    let e : suc (n + place) ≡ n + suc place = omega arith in
    elim (cases_Bool (open_after depth b == 0)) [
      | inl ended ↦ rw ended (ap (λ p. Some p) e)
      | inr more ↦ rw (more, e) (closing-moved n (open_after depth b) (suc place) bs)
    ]

end-moved : (n depth place : ℕ) (bs : List ℕ) → group_end_from depth (n + place) bs ≡ place_behind n (group_end_from depth place bs)
end-moved n depth place [] = refl
end-moved n zero place (b ∷ bs) =
    let e : suc (n + place) ≡ n + suc place = omega arith in
    elim (cases_Bool (b == 40)) [
      | inl open_one ↦ rw (open_one, e) (closing-moved n 1 (suc place) bs)
      | inr other ↦ rw (other, e) (end-moved n zero (suc place) bs)
    ]
end-moved n (suc d) place (b ∷ bs) = closing-moved n (suc d) place (b ∷ bs)

drop-behind : (front : List ℕ) (b : ℕ) (xs : List ℕ) → drop (suc (length front)) (front ++ b ∷ xs) ≡ xs
drop-behind [] b xs = refl
drop-behind (x ∷ front) b xs = drop-behind front b xs

end-first : (front xs : List ℕ) → group_end_from 0 (length front) xs ≡ group_behind (front ++ xs) (next_open (length front) xs)
end-first front [] = refl
end-first front (b ∷ xs) =
    elim (cases_Bool (b == 40)) [
      | inl open_one ↦ rw open_one (ap (closing 1 (suc (length front))) (sym (drop-behind front b xs)))
      | inr other ↦
          let len : length (front ++ b ∷ []) ≡ suc (length front) = omega (arith, length_push front b) in
          let all : (front ++ b ∷ []) ++ xs ≡ front ++ b ∷ xs = append_assoc front (b ∷ []) xs in
          rw other (rw (len, all) at (end-first (front ++ b ∷ []) xs))
    ]

-- what is found in the next bytes is what is found in all
pub scan-found : (seen bytes : List ℕ) (depth : ℕ) (r : Option ℕ) → IsScanned seen depth → r ≡ group_end_from depth 0 bytes → place_behind (length seen) r ≡ first_group_end (seen ++ bytes)
scan-found seen bytes depth r h e =
    let zero_more : length seen + 0 ≡ length seen = omega arith in
    let here : group_end_from depth (length seen) bytes ≡ place_behind (length seen) (group_end_from depth 0 bytes) = rw zero_more at (end-moved (length seen) depth 0 bytes) in
    ap (place_behind (length seen)) e ∙ sym here ∙ ap (λ d. group_end_from d (length seen) bytes) h.open_brackets
    ∙ sym (rw (zero-add (length seen)) at (end-append 0 0 seen bytes (end-first [] seen ∙ h.not_ended))) ∙ end-first [] (seen ++ bytes)

-- where nothing is found, the next bytes count among those that were scanned
pub scan-open : (seen bytes : List ℕ) (depth now : ℕ) (r : Option ℕ) → IsScanned seen depth → r ≡ group_end_from depth 0 bytes → IfNone r (now ≡ fold open_after depth bytes) → IfNone r (IsScanned (seen ++ bytes) now)
scan-open seen bytes depth now None h e count = record {
  open_brackets = count ∙ ap (λ d. fold open_after d bytes) h.open_brackets ∙ sym (fold-append open_after 0 seen bytes);
  not_ended = sym (scan-found seen bytes depth None h e);
}
scan-open seen bytes depth now (Some after) h e count = tt

-- ---- runs of bytes

-- a run without a bracket
module _ where
  rest : (b : ℕ) (bs : List ℕ) → All NoBracket (b ∷ bs) → All NoBracket bs
  rest b bs h = λ k d l. h (suc k) d (omega (arith, l))

  depth_stays : (depth b : ℕ) (bs : List ℕ) → All NoBracket (b ∷ bs) → open_after depth b ≡ depth
  depth_stays depth b bs h = let no : NoBracket b = h 0 0 (omega arith) in sym (other_byte depth b no.0 no.1)

pub quiet-fold : (depth : ℕ) (xs : List ℕ) → All NoBracket xs → depth ≡ fold open_after depth xs
quiet-fold depth [] h = refl
quiet-fold depth (b ∷ bs) h = quiet-fold depth bs (rest b bs h) ∙ ap (λ d. fold open_after d bs) (sym (depth_stays depth b bs h))

pub quiet-none : (depth place : ℕ) (xs : List ℕ) → All NoBracket xs → None ≡ group_end_from depth place xs
quiet-none depth place [] h = refl
quiet-none depth place (b ∷ bs) h =
    let e = depth_stays depth b bs h in
    let goes_on : (depth ≡ 0) ⊎ (open_after depth b ≢ 0) = elim (cases_eq depth 0) [ inl none ↦ inl none | inr some ↦ inr (λ ended. some (sym e ∙ ended)) ] in
    quiet-none depth (suc place) bs (rest b bs h) ∙ ap (λ d. group_end_from d (suc place) bs) (sym e) ∙ sym (step_on depth place b bs goes_on)

end-found : (depth place after : ℕ) (xs ys : List ℕ) → group_end_from depth place xs ≡ Some after → group_end_from depth place (xs ++ ys) ≡ Some after
end-found depth place after [] ys h = cc
end-found depth place after (b ∷ xs) ys h =
    elim (step depth place b) [
      | inl stops ↦ stops (xs ++ ys) ∙ sym (stops xs) ∙ h
      | inr more ↦ more (xs ++ ys) ∙ end-found (open_after depth b) (suc place) after xs ys (sym (more xs) ∙ h)
    ]

moved : (depth at : ℕ) (xs : List ℕ) → group_end_from depth at xs ≡ place_behind at (group_end_from depth 0 xs)
moved depth at xs = let zero_more : at + 0 ≡ at = omega arith in rw zero_more at (end-moved at depth 0 xs)

-- the run of these bytes from a place up to an end
module _ (at end : ℕ) (xs : List ℕ) (ordered : at ≤ end) where
  abbrev pub run : List ℕ
  run = take (end - at) (drop at xs)

  up_to : at + (end - at) ≡ end
  up_to = omega arith

  split : drop at xs ≡ run ++ drop end xs
  split = sym (ap (λ ys. run ++ ys) (ap (λ k. drop k xs) (sym up_to) ∙ sym (drop-drop (end - at) at xs)) ∙ take-append-drop (end - at) (drop at xs))

  -- no end in the run
  pub run-more : (depth now : ℕ) → end ≤ length xs → None ≡ group_end_from depth 0 run → now ≡ fold open_after depth run
      → group_end_from depth at (drop at xs) ≡ group_end_from now end (drop end xs)
  run-more depth now within none e =
      let long : length run ≡ end - at = length-take-le (end - at) (drop at xs) (omega (arith, length-drop at xs)) in
      ap (group_end_from depth at) split
      ∙ end-append depth at run (drop end xs) (moved depth at run ∙ ap (place_behind at) (sym none))
      ∙ rw (long, up_to, ← e) refl

  -- an end in the run
  pub run-found : (depth after : ℕ) → Some after ≡ group_end_from depth 0 run → group_end_from depth at (drop at xs) ≡ Some (at + after)
  run-found depth after found =
      ap (group_end_from depth at) split
      ∙ end-found depth at (at + after) run (drop end xs) (moved depth at run ∙ ap (place_behind at) (sym found))

  pub fold-run : (start depth now : ℕ) → depth ≡ fold open_after start (take at xs) → now ≡ fold open_after depth run → now ≡ fold open_after start (take end xs)
  fold-run start depth now e f =
      let joined : take end xs ≡ take at xs ++ run = rw up_to at (take-add at (end - at) xs) in
      f ∙ ap (λ d. fold open_after d run) e ∙ sym (ap (fold open_after start) joined ∙ fold-append open_after start (take at xs) run)

-- A list that is read value by value up to its bracket: the next value, or none at the bracket.
use Rattle.std.proofs.Common.{◌≡◌, ◌∙◌, refl, sym, ap, ℕ, Bool, true, false, if◌then◌else◌, Ok, Err, Result, List, [], ◌∷◌, ◌++◌, append-nil}
use Rattle.std.specs.Prelude.{Option, Some, None, IfSome}
use Rattle.pip_model.specs.Reading.{Fault, Reads, ◌>>=◌}
use Rattle.text_reading.specs.Fronts.{with_front}
use Rattle.text_reading.proofs.Fronts.{one_more, front_push}

-- the values behind the next one; none is left at the bracket before `after`
abbrev pub behind : {A : Type 0} → (ℕ → Reads (List A)) → ℕ → Option (A × ℕ) → Reads (List A)
behind rest after None = Ok ([], after)
behind rest after (Some x) = rest x.1 >>= λ xs. Ok (x.0 ∷ xs.0, xs.1)

-- a list that ends at its bracket or goes on
pub list_by : {A : Type 0} (closed : Bool) (one : Reads A) (rest : ℕ → Reads (List A)) (after : ℕ)
    → (if closed then Ok ([], after) else one_more one rest) ≡ ((if closed then Ok None else (one >>= λ x. Ok (Some x))) >>= behind rest after)
list_by true one rest after = refl
list_by false (Ok x) rest after = refl
list_by false (Err e) rest after = refl

-- a list that ends at its bracket or is too long
pub full_by : {A : Type 0} (closed : Bool) (opened : Result ℕ Fault) (rest : ℕ → Reads (List A)) (after : ℕ) (e : Fault)
    → (if closed then Ok ([], after) else (opened >>= λ first. Err e)) ≡ ((if closed then Ok None else (opened >>= λ first. Err e)) >>= behind rest after)
full_by true opened rest after e = refl
full_by false (Ok x) rest after e = refl
full_by false (Err f) rest after e = refl

-- the list by its next value, with what was read before it
module _ {A : Type 0} (front : List A) (next : Result (Option (A × ℕ)) Fault) (rest : ℕ → Reads (List A)) (after : ℕ) (list whole : Reads (List A)) (by : list ≡ (next >>= behind rest after)) (so_far : with_front front list ≡ whole) where
  pub list_end : next ≡ Ok None → whole ≡ Ok (front, after)
  list_end e =
      let ends : list ≡ Ok ([], after) = by ∙ rw e refl in
      sym so_far ∙ ap (with_front front) ends ∙ ap (λ (xs : List A). Ok (xs, after)) (append-nil front)

  pub list_more : (x : A) (at : ℕ) → next ≡ Ok (Some (x, at)) → with_front (front ++ x ∷ []) (rest at) ≡ whole
  list_more x at e =
      let goes_on : list ≡ (rest at >>= λ xs. Ok (x ∷ xs.0, xs.1)) = by ∙ rw e refl in
      sym (front_push front x (rest at)) ∙ ap (with_front front) (sym goes_on) ∙ so_far

  pub list_refused : (fault : Option Fault) → IfSome fault (λ f. next ≡ Err f) → IfSome fault (λ f. whole ≡ Err f)
  list_refused None h = tt
  list_refused (Some f) h =
      let stops : list ≡ Err f = by ∙ rw h refl in
      sym so_far ∙ ap (with_front front) stops

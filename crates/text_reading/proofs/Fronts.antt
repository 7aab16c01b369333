-- A list that is being read, with what was read before it.
use Rattle.std.proofs.Common.{◌≡◌, ◌∙◌, ℕ, suc, ◌+◌, ◌-◌, ◌<◌, List, [], ◌∷◌, ◌++◌, Ok, Err, refl, sym, ap, append_assoc, arith}
use Rattle.std.specs.Prelude.{Option, Some, None, IfSome}
use Rattle.pip_model.specs.Reading.{Fault, Reads, ◌>>=◌, number, numbers, row, rows}
use Rattle.text_reading.specs.Fronts.{with_front}

-- one value and then the others
abbrev pub one_more : {A : Type 0} → Reads A → (ℕ → Reads (List A)) → Reads (List A)
one_more one rest = one >>= λ x. rest x.1 >>= λ xs. Ok (x.0 ∷ xs.0, xs.1)

-- a value and a place, read
abbrev pub read_as : {A : Type 0} → A → ℕ → Reads A
read_as x place = Ok (x, place)

pub front_front : {A : Type 0} (front more : List A) (read : Reads (List A)) → with_front front (with_front more read) ≡ with_front (front ++ more) read
front_front front more (Ok rest) = ap (λ xs. read_as xs rest.1) (sym (append_assoc front more rest.0))
front_front front more (Err e) = refl

pub front_push : {A : Type 0} (front : List A) (x : A) (read : Reads (List A)) → with_front front (read >>= λ xs. Ok (x ∷ xs.0, xs.1)) ≡ with_front (front ++ x ∷ []) read
front_push front x read = front_front front (x ∷ []) read

-- the next value is read
pub step_more : {A : Type 0} (front : List A) (x : A) (after : ℕ) (one : Reads A) (rest : ℕ → Reads (List A)) (left whole : Reads (List A))
    → left ≡ one_more one rest → with_front front left ≡ whole → one ≡ Ok (x, after) → with_front (front ++ x ∷ []) (rest after) ≡ whole
step_more front x after one rest left whole more so_far e =
    let step : with_front front (one_more one rest) ≡ with_front (front ++ x ∷ []) (rest after) = rw e (front_push front x (rest after)) in
    sym step ∙ ap (λ read. with_front front read) (sym more) ∙ so_far

-- the next value is refused, for a fault if it has one
pub refused_more : {A : Type 0} (fault : Option Fault) (front : List A) (one : Reads A) (rest : ℕ → Reads (List A)) (left whole : Reads (List A))
    → left ≡ one_more one rest → with_front front left ≡ whole → IfSome fault (λ f. one ≡ Err f) → IfSome fault (λ f. whole ≡ Err f)
refused_more None front one rest left whole more so_far h = tt
refused_more (Some f) front one rest left whole more so_far h =
    let step : with_front front (one_more one rest) ≡ Err f = rw h refl in
    sym so_far ∙ ap (λ read. with_front front read) more ∙ step

-- ---- so many numbers, so many rows

pub numbers_more : (bytes : List ℕ) (count i place : ℕ) → i < count → numbers bytes (count - i) place ≡ one_more (number bytes place) (λ at. numbers bytes (count - (i + 1)) at)
numbers_more bytes count i place h = let left : count - i ≡ suc (count - (i + 1)) = omega arith in rw left refl

pub rows_more : (bytes : List ℕ) (count n i place : ℕ) → i < count → rows bytes (count - i) n place ≡ one_more (row bytes n place) (λ at. rows bytes (count - (i + 1)) n at)
rows_more bytes count n i place h = let left : count - i ≡ suc (count - (i + 1)) = omega arith in rw left refl

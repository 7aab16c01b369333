-- A list that is being read, with what was read before it.
use Rattle.polylib_reader.proofs.Words.{◌≡◌, ◌∙◌, ℕ, suc, ◌+◌, ◌-◌, ◌<◌, ℤ, List, ◌++◌, Bool, Ok, Err, refl, sym, ap, arith, LimitKind, Fault, Reads, ◌>>=◌, matrix_number, matrix_numbers, inequalities, matrix_rows, with_front, one_more, front_front, row_head}
use Rattle.polylib_reader.proofs.Chains.{matrix_rows-more}

-- the same chain as `with_front` after its first two steps
two_steps : {A B C : Type 0} (one : Reads A) (two : A → ℕ → Reads B) (rest : A → B → ℕ → Reads (List C)) (x : A) (p : ℕ) (y : B) (q : ℕ) → one ≡ Ok (x, p) → two x p ≡ Ok (y, q)
    → (one >>= λ a. two a.0 a.1 >>= λ b. rest a.0 b.0 b.1) ≡ rest x y q
two_steps one two rest x p y q e f = rw (e, f) refl

-- ---- numbers

pub numbers_more : (bytes : List ℕ) (count i place : ℕ) → i < count → matrix_numbers bytes (count - i) place ≡ one_more (matrix_number bytes place) (λ at. matrix_numbers bytes (count - (i + 1)) at)
numbers_more bytes count i place h = let left : count - i ≡ suc (count - (i + 1)) = omega arith in rw left refl

-- ---- rows

pub rows_kept : (front : List (List ℤ)) (bytes : List ℕ) (kind : LimitKind) (most n count row_count i place : ℕ) (equality : Bool) (now behind_head : ℕ) (c : List ℤ) (after : ℕ) (whole : Reads (List (List ℤ))) → i < row_count
    → with_front front (matrix_rows bytes kind most n count (row_count - i) place) ≡ whole
    → row_head bytes kind most count place ≡ Ok ((equality, now), behind_head) → matrix_numbers bytes n behind_head ≡ Ok (c, after)
    → with_front (front ++ inequalities equality c) (matrix_rows bytes kind most n now (row_count - (i + 1)) after) ≡ whole
rows_kept front bytes kind most n count row_count i place equality now behind_head c after whole h so_far e f =
    let rest = matrix_rows bytes kind most n now (row_count - (i + 1)) after in
    let left : row_count - i ≡ suc (row_count - (i + 1)) = omega arith in
    let step : matrix_rows bytes kind most n count (row_count - i) place ≡ with_front (inequalities equality c) rest =
    ap (λ k. matrix_rows bytes kind most n count k place) left ∙ matrix_rows-more bytes kind most n count (row_count - (i + 1)) place
    ∙ two_steps (row_head bytes kind most count place) (λ head p. matrix_numbers bytes n p) (λ head entries q. with_front (inequalities head.0 entries) (matrix_rows bytes kind most n head.1 (row_count - (i + 1)) q)) (equality, now) behind_head c after e f in
    sym (front_front front (inequalities equality c) rest) ∙ ap (with_front front) (sym step) ∙ so_far

-- the head of the next row is refused
pub head_refused : (front : List (List ℤ)) (bytes : List ℕ) (kind : LimitKind) (most n count row_count i place : ℕ) (whole : Reads (List (List ℤ))) → i < row_count
    → with_front front (matrix_rows bytes kind most n count (row_count - i) place) ≡ whole → (f : Fault) → row_head bytes kind most count place ≡ Err f → whole ≡ Err f
head_refused front bytes kind most n count row_count i place whole h so_far f e =
    let left : row_count - i ≡ suc (row_count - (i + 1)) = omega arith in
    let step : matrix_rows bytes kind most n count (row_count - i) place ≡ Err f =
    ap (λ k. matrix_rows bytes kind most n count k place) left ∙ matrix_rows-more bytes kind most n count (row_count - (i + 1)) place
    ∙ ap (λ (head : Reads (Bool × ℕ)). head >>= λ x. matrix_numbers bytes n x.1 >>= λ y. with_front (inequalities x.0.0 y.0) (matrix_rows bytes kind most n x.0.1 (row_count - (i + 1)) y.1)) e in
    sym so_far ∙ ap (with_front front) step

-- an entry of the next row is refused
pub entries_refused : (front : List (List ℤ)) (bytes : List ℕ) (kind : LimitKind) (most n count row_count i place : ℕ) (head : (Bool × ℕ) × ℕ) (whole : Reads (List (List ℤ))) → i < row_count
    → with_front front (matrix_rows bytes kind most n count (row_count - i) place) ≡ whole → row_head bytes kind most count place ≡ Ok head → (f : Fault) → matrix_numbers bytes n head.1 ≡ Err f → whole ≡ Err f
entries_refused front bytes kind most n count row_count i place head whole h so_far e f g =
    let left : row_count - i ≡ suc (row_count - (i + 1)) = omega arith in
    let step : matrix_rows bytes kind most n count (row_count - i) place ≡ Err f =
    ap (λ k. matrix_rows bytes kind most n count k place) left ∙ matrix_rows-more bytes kind most n count (row_count - (i + 1)) place
    ∙ ap (λ (one : Reads (Bool × ℕ)). one >>= λ x. matrix_numbers bytes n x.1 >>= λ y. with_front (inequalities x.0.0 y.0) (matrix_rows bytes kind most n x.0.1 (row_count - (i + 1)) y.1)) e
    ∙ ap (λ (entries : Reads (List ℤ)). entries >>= λ y. with_front (inequalities head.0.0 y.0) (matrix_rows bytes kind most n head.0.1 (row_count - (i + 1)) y.1)) g in
    sym so_far ∙ ap (with_front front) step

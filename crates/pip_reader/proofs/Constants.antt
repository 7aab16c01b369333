-- The row whose constant is moved to the end.
use Rattle.pip_reader.proofs.Words.{◌≡◌, ℕ, suc, ◌+◌, ◌-◌, ◌<◌, ℤ, pos, List, ◌∷◌, ◌++◌, length, take, drop, get_or, refl, length-append, length-take, length-drop, arith, All, map, Ok, Err, Reads, ◌>>=◌, row, rows, form_of_row, one_more, read_as, form_row, form_rows}
use Rattle.std.proofs.lemmas.List.Elements.{All-append, All-take, All-drop, All-get_or, All-push}
use Rattle.affine_forms.specs.Checks.{Fits}

pub form_of_row_length : (n : ℕ) (row : List ℤ) → n < length row → length (form_of_row n row) ≡ length row
form_of_row_length n row h = simp (length-append, length-take, length-drop) (omega arith)

pub form_of_row_fits : (n : ℕ) (row : List ℤ) → n < length row → All Fits row → All Fits (form_of_row n row)
form_of_row_fits n row h fits =
    All-push Fits (take n row ++ drop (n + 1) row) (get_or row n (pos 0))
    (All-append Fits (take n row) (drop (n + 1) row) (All-take Fits n row fits) (All-drop Fits (n + 1) row fits))
    (All-get_or Fits row n (pos 0) h fits)

-- ---- rows as forms

map_rest : {A B : Type 0} (f : A → B) (x : A) (rest : Reads (List A))
    → ((rest >>= λ xs. read_as (x ∷ xs.0) xs.1) >>= λ xs. read_as (map f xs.0) xs.1) ≡ ((rest >>= λ xs. read_as (map f xs.0) xs.1) >>= λ xs. read_as (f x ∷ xs.0) xs.1)
map_rest f x (Ok xs) = refl
map_rest f x (Err e) = refl

map_more : {A B : Type 0} (f : A → B) (one : Reads A) (rest : ℕ → Reads (List A))
    → (one_more one rest >>= λ xs. read_as (map f xs.0) xs.1) ≡ one_more (one >>= λ x. read_as (f x.0) x.1) (λ at. rest at >>= λ xs. read_as (map f xs.0) xs.1)
map_more f (Ok x) rest = map_rest f x.0 (rest x.1)
map_more f (Err e) rest = refl

pub form_rows_more : (bytes : List ℕ) (count n k i place : ℕ) → i < count
    → form_rows bytes (count - i) n k place ≡ one_more (form_row bytes n k place) (λ at. form_rows bytes (count - (i + 1)) n k at)
form_rows_more bytes count n k i place h =
    let left : count - i ≡ suc (count - (i + 1)) = omega arith in
    rw left (map_more (form_of_row k) (row bytes n place) (λ at. rows bytes (count - (i + 1)) n at))

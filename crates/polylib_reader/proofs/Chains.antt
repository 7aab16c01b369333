-- The rows of a matrix, one more at a time.
use Rattle.polylib_reader.proofs.Words.{◌≡◌, refl, ℕ, List, ◌++◌, suc, LimitKind, ◌>>=◌, matrix_numbers, inequalities, matrix_rows, bind_assoc, row_head}
use Rattle.std.specs.Prelude.{Ok}

-- a row and then the others
pub matrix_rows-more : (bytes : List ℕ) (kind : LimitKind) (most n count left place : ℕ)
    → matrix_rows bytes kind most n count (suc left) place
    ≡ (row_head bytes kind most count place >>= λ head. matrix_numbers bytes n head.1 >>= λ c. matrix_rows bytes kind most n head.0.1 left c.1 >>= λ rest. Ok (inequalities head.0.0 c.0 ++ rest.0, rest.1))
matrix_rows-more bytes kind most n count left place = simp bind_assoc refl

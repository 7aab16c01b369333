-- What the rest of a context is read as, by its next row.
use Rattle.pip_reader.proofs.Words.{◌≡◌, ℕ, zero, suc, ◌+◌, ◌-◌, arith, sub-one, false, pos, List, RightParen, LeftRow, ContextRows, most_context_rows, token, Limit, ◌>>=◌, same_bracket, expect, row, context_rows, behind, list_by, full_by, next_row}
use Rattle.std.proofs.Common.{◌==◌}
use Rattle.std.proofs.lemmas.Bool.Decides.{nat_tests}

some_left : (n : ℕ) → (suc n == 0) ≡ false
some_left n = grind (arith, nat_tests)

pub rows_by : (bytes : List ℕ) (n left p : ℕ) → context_rows bytes n left p ≡ (next_row bytes n left p >>= behind (λ at. context_rows bytes n (left - 1) at) (token bytes p).after)
rows_by bytes n zero p = full_by (same_bracket (token bytes p).kind RightParen) (expect bytes LeftRow p) _ (token bytes p).after (Limit ContextRows (pos (most_context_rows + 1)))
rows_by bytes n (suc left) p =
    rw (some_left left, sub-one) (list_by (same_bracket (token bytes p).kind RightParen) (row bytes n p) (λ at. context_rows bytes n left at) (token bytes p).after)

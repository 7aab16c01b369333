-- What the rest of a list is read as, by its next component.
use Rattle.quast_text.proofs.Words.{◌≡◌, ℕ, zero, suc, ◌+◌, ◌-◌, arith, sub-one, false, ◌==◌, pos, List, RightParen, LeftRow, most_components, Components, ◌>>=◌, same_bracket, expect, component, components, behind, list_by, full_by, next_component, token}
use Rattle.std.proofs.lemmas.Bool.Decides.{nat_tests}

some_left : (n : ℕ) → (suc n == 0) ≡ false
some_left n = grind (arith, nat_tests)

pub components_by : (bytes : List ℕ) (w left p : ℕ) → components bytes w left p ≡ (next_component bytes w left p >>= behind (λ at. components bytes w (left - 1) at) (token bytes p).after)
components_by bytes w zero p = full_by (same_bracket (token bytes p).kind RightParen) (expect bytes LeftRow p) _ (token bytes p).after (Components (pos (most_components + 1)))
components_by bytes w (suc n) p =
    rw (some_left n, sub-one) (list_by (same_bracket (token bytes p).kind RightParen) (component bytes w p) (λ at. components bytes w n at) (token bytes p).after)

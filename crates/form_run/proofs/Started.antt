-- The first rows of a question's run, and what the run tells of the question.
use Rattle.std.proofs.Common.{All}
use Rattle.form_run.proofs.Words.{◌≡◌, ◌∙◌, ap, sym, ℕ, ◌+◌, ℤ, arith, List, [], ◌∷◌, ◌++◌, length, map, append-nil, length-map, map-append, All-cons, All-append, widen_to, start, unit_row, count_from, Work, length-count, length-widened, TableauRows, has_point, finds_point, first_rows}
use Rattle.pip_model.specs.Contexts.{IsContext}
use Rattle.short_run.proofs.Ending.{alone_is}

pub start_long : (n w : ℕ) → length (start n w []) ≡ n
start_long n w = ap length (append-nil (map (unit_row n w) (count_from 0 n))) ∙ length-map (count_from 0 n) (unit_row n w) ∙ length-count 0 n

pub all_wide : (n : ℕ) (K : List (List ℤ)) → IsContext n K → All (λ f. length f ≡ n + 1) (map (widen_to n) K)
all_wide n [] h = λ k d lt. absurd (omega (arith, lt))
all_wide n (f ∷ K) h = All-cons (λ (g : List ℤ). length g ≡ n + 1) (widen_to n f) (map (widen_to n) K) (length-widened n f (omega (arith, h.0.most))) (all_wide n K h.1)

pub both_wide : (n : ℕ) (K M : List (List ℤ)) → IsContext n K → IsContext n M → All (λ f. length f ≡ n + 1) (map (widen_to n) K ++ map (widen_to n) M)
both_wide n K M h k = All-append (λ (g : List ℤ). length g ≡ n + 1) (map (widen_to n) K) (map (widen_to n) M) (all_wide n K h) (all_wide n M k)

pub first_is : (n : ℕ) (K M lists : List (List ℤ)) (t : TableauRows) → t ≡ record { unknowns = n; width = 0; rows = start n 0 lists } → lists ≡ map (widen_to n) K ++ map (widen_to n) M
    → t ≡ record { unknowns = n; width = 0; rows = first_rows n (K ++ M) }
first_is n K M lists t e is = e ∙ ap (λ (l : List (List ℤ)). record { unknowns = n; width = 0; rows = start n 0 l }) (is ∙ sym (map-append (widen_to n) K M))

-- ---- whether a context has a point

pub finds_is : (n : ℕ) (K : List (List ℤ)) (t : TableauRows) (w : Work) → t ≡ record { unknowns = n; width = 0; rows = first_rows n K } → finds_point t.unknowns t.rows w ≡ has_point n K w
finds_is n K t w e = ap (λ (s : TableauRows). finds_point s.unknowns s.rows w) e ∙ sym (alone_is n K w)

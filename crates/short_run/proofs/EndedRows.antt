-- Rows at which a run ends.
use Rattle.short_run.proofs.Words.{◌≡◌, ◌∙◌, refl, ap, ℕ, suc, ◌+◌, ◌<◌, ◌≤◌, arith, Bool, true, false, Option, Some, None, is_some, IsTrue, IfSome, List, [], ◌∷◌, ◌++◌, length, if◌then◌else◌, is_nonneg, is_positive, constant, list_any, Row, row_at, candidates, Work, Done, negative_from, finds_point}
use Rattle.point_turns.specs.Ended.{IsEndedBy}
use Rattle.short_run.proofs.Ending.{none_enters, finds_here, finds_none}
use Rattle.short_run.proofs.FurtherRows.{negative-front, row_at-front}

negative-within : (S : List Row) (i r : ℕ) → negative_from i S ≡ Some r → r < i + length S
negative-within [] i r e = absurd cc
negative-within (x ∷ S) i r e = by (is_nonneg (constant x.constant)) e (negative-within S (i + 1) r)
  where
    by : (t : Bool) → (if t then negative_from (i + 1) S else Some i) ≡ Some r → (negative_from (i + 1) S ≡ Some r → r < i + 1 + length S) → r < i + suc (length S)
    by true e later = let lt = later e in omega (arith, lt)
    by false e later = let same = some_is i r e in omega (arith, same)
      where
        some_is : (a b : ℕ) → Some a ≡ Some b → a ≡ b
        some_is a b e = cc

-- rows at which a run ends, with rows behind them that are not below 0
module _ (n : ℕ) (E S : List Row) (v : Work) (long : n ≤ length E) (above : negative_from 0 S ≡ None) where
  closed_at : (o : Option ℕ) → negative_from 0 E ≡ o → IsTrue (is_some o) → IfSome o (λ r. list_any is_positive (row_at E r).coefs ≡ false) → finds_point n (E ++ S) v ≡ Done false v
  closed_at None e some free = absurd cc
  closed_at (Some r) e some free =
      let within : r < length E = let lt = negative-within E 0 r e in omega (arith, lt) in
      finds_none n (E ++ S) r (negative-front E S 0 r e) (ap candidates (row_at-front E S r within) ∙ none_enters (row_at E r) free) v

  pub finds_ended : (found : Bool) → IsEndedBy n E found → finds_point n (E ++ S) v ≡ Done found v
  finds_ended true is = finds_here n E S v long is.0 above is.1
  finds_ended false is = closed_at (negative_from 0 E) refl is.0 is.1

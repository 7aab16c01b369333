-- Where a run shows a point, the first row behind its own that is below 0 ends it where no column enters there.
use Rattle.kept_run.proofs.Words.{◌≡◌, ◌∙◌, refl, ap, sym, ℕ, ◌+◌, ◌-◌, arith, Bool, true, false, Option, Some, None, is_none, List, [], ◌∷◌, ◌++◌, length, if◌then◌else◌, get_or-append_right, is_nonneg, constant, Row, row_at, form_row, candidates, first_fraction, Work, Done, both, negative_from, is_end, EndsWith, IsClosing, go_on, replayed, finds_point, asked, IsStopped, Remembered, none_of, none_enters, finds_none, below_behind}

-- so many places later
abbrev later : ℕ → Option ℕ → Option ℕ
later j None = None
later j (Some r) = Some (j + r)

later-later : (j : ℕ) (o : Option ℕ) → later (j + 1) o ≡ later j (later 1 o)
later-later j None = refl
later-later j (Some r) = let e : j + 1 + r ≡ j + (1 + r) = omega arith in ap Some e

negative-later : (S : List Row) (j : ℕ) → negative_from j S ≡ later j (negative_from 0 S)
negative-later [] j = refl
negative-later (x ∷ S) j = by (is_nonneg (constant x.constant)) (negative-later S (j + 1)) (negative-later S 1)
  where
    by : (t : Bool) → negative_from (j + 1) S ≡ later (j + 1) (negative_from 0 S) → negative_from 1 S ≡ later 1 (negative_from 0 S)
        → (if t then negative_from (j + 1) S else Some j) ≡ later j (if t then negative_from 1 S else Some 0)
    by true a b = a ∙ later-later j (negative_from 0 S) ∙ ap (later j) (sym b)
    by false a b = let e : j ≡ j + 0 = omega arith in ap Some e

pub negative-behind : (E S : List Row) (i r : ℕ) → negative_from i E ≡ None → negative_from 0 S ≡ Some r → negative_from i (E ++ S) ≡ Some (i + (length E + r))
negative-behind E S i r e f = below_behind E S i e ∙ negative-later S (i + length E) ∙ ap (later (i + length E)) f ∙ ap Some (omega arith)

module _ (n : ℕ) (E S : List Row) (r : ℕ) (is : IsClosing S r) (end : is_end n E ≡ true) where
  pub row_here : row_at (E ++ S) (length E + r) ≡ row_at S r
  row_here = get_or-append_right E S (length E) (length E + r) (form_row 0 []) refl (omega arith) ∙ ap (λ (i : ℕ). row_at S i) (omega arith)

  pub below_here : negative_from 0 (E ++ S) ≡ Some (length E + r)
  below_here =
      let none = none_of (negative_from 0 E) (both (is_none (negative_from 0 E)) (is_none (first_fraction n E)) end).0 in
      negative-behind E S 0 r none is.below ∙ ap Some (omega arith)

  pub free_here : candidates (row_at (E ++ S) (length E + r)) ≡ []
  free_here = ap candidates row_here ∙ none_enters (row_at S r) is.none

pub ends_below : (now : List Row) (r : ℕ) → IsClosing now r → EndsWith now false
ends_below now r is n E v h e = finds_none n (E ++ now) (length E + r) (below_here n E now r is e) (free_here n E now r is e) v

-- so no copy of the last rows is needed
pub asked_end : (m : Remembered) (rows now : List Row) (w v : Work) (found : Bool) → IsStopped m → m.at_end ≡ true → replayed m.run.pivots.rows m.run.columns.items rows w ≡ Done now v → EndsWith now found
    → asked m rows w ≡ Done found v
asked_end m rows now w v found is at_end made ends =
    ap (λ o. go_on o (λ now. finds_point m.run.end.unknowns (m.run.end.rows ++ now))) made
    ∙ ends m.run.end.unknowns m.run.end.rows v is.formed.rows (sym is.at_end ∙ at_end)

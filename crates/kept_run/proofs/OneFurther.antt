-- A kept run and one form more: where it shows a point and the form's row is from 0 on, it still does.
use Rattle.kept_run.proofs.Words.{◌≡◌, ◌∙◌, refl, ap, sym, subst, ℕ, ◌+◌, ◌≤◌, ℤ, Bool, true, false, Some, None, is_none, List, [], ◌∷◌, ◌++◌, length, if◌then◌else◌, constant, Row, first_fraction, is_nonneg, both, negative_from, is_end, none_of, widen_to, form_row, IsReplay, first_rows}
use Rattle.kept_run.specs.declared.remembered.Replay.{Replay}
use Rattle.kept_run.proofs.OneFormMore.{rows-more}
use Rattle.std.proofs.lemmas.List.{take-append-le}
use Rattle.pip_model.specs.Rows.{fraction_from}

negative-longer : (E : List Row) (r : Row) (i : ℕ) → negative_from i E ≡ None → is_nonneg (constant r.constant) ≡ true → negative_from i (E ++ r ∷ []) ≡ None
negative-longer [] r i e h = rw h refl
negative-longer (x ∷ E) r i e h = by (is_nonneg (constant x.constant)) e (λ f. negative-longer E r (i + 1) f h)
  where
    by : (t : Bool) → (if t then negative_from (i + 1) E else Some i) ≡ None → (negative_from (i + 1) E ≡ None → negative_from (i + 1) (E ++ r ∷ []) ≡ None)
        → (if t then negative_from (i + 1) (E ++ r ∷ []) else Some i) ≡ None
    by true e later = later e
    by false e later = absurd cc

pub end-longer : (n : ℕ) (E : List Row) (r : Row) → n ≤ length E → is_end n E ≡ true → is_nonneg (constant r.constant) ≡ true → is_end n (E ++ r ∷ []) ≡ true
end-longer n E r few e h =
    let parts = both (is_none (negative_from 0 E)) (is_none (first_fraction n E)) e in
    let none = negative-longer E r 0 (none_of (negative_from 0 E) parts.0) h in
    let whole : first_fraction n (E ++ r ∷ []) ≡ None = ap (fraction_from 0) (take-append-le n E (r ∷ []) few) ∙ none_of (first_fraction n E) parts.1 in
    rw (none, whole) refl

-- the row of a further form behind the last rows makes the run that of the form too
pub replay-further : (n : ℕ) (K : List (List ℤ)) (f : List ℤ) (old new : Replay) → old.end.unknowns ≡ n → IsReplay (first_rows n K) old
    → ((first : List Row) → IsReplay first old → IsReplay (first ++ form_row old.end.unknowns (widen_to old.end.unknowns f) ∷ []) new) → IsReplay (first_rows n (K ++ f ∷ [])) new
replay-further n K f old new e is more =
    let u = old.end.unknowns in
    let of_first = subst (λ (k : ℕ). IsReplay (first_rows k K) old) (sym e) is in
    let of_all = subst (λ (rows : List Row). IsReplay rows new) (sym (rows-more u K (f ∷ []))) (more (first_rows u K) of_first) in
    subst (λ (k : ℕ). IsReplay (first_rows k (K ++ f ∷ [])) new) e of_all

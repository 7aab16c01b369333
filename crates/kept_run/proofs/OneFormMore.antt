-- What a run with further rows behind its first ones tells of a context with further forms.
use Rattle.kept_run.proofs.Words.{◌≡◌, ◌∙◌, refl, ap, sym, ℕ, zero, suc, ℤ, List, [], ◌∷◌, ◌++◌, is_some, Bool, Option, Some, None, IfSome, Result, run_fault, IsCountedRun, map-append, append_assoc, Row, Work, Outcome, Done, Refused, go_on, give, run_from, numbers_of, point, point_run, point_setting, node_of, has_point, finds_point, replayed, asked, first_trace, pos, form_rows, first_rows, IsReplay, IsRemembered, Remembered}
pub use Rattle.short_run.proofs.Ending.{alone_is}
use Rattle.short_run.proofs.Leaving.{run_same}
use Rattle.pip_problem.specs.declared.refusal.Refusal as code

-- the remembered pivots, and then the run from their end
asked_is : (m : Remembered) (first rows : List Row) (w : Work) → IsReplay first m.run → finds_point m.run.end.unknowns (first ++ rows) w ≡ asked m rows w
asked_is m first rows w is =
    ap (λ o. go_on o (λ t. give (is_some (numbers_of t)))) (is.run (first_trace [] 0 (pos 0)) rows w)
    ∙ each (replayed m.run.pivots.rows m.run.columns.items rows w)
  where
    each : (o : Outcome (List Row)) → go_on (go_on o (λ now. run_from (point_setting m.run.end.unknowns) (node_of (m.run.end.rows ++ now)))) (λ t. give (is_some (numbers_of t)))
        ≡ go_on o (λ now. finds_point m.run.end.unknowns (m.run.end.rows ++ now))
    each (Done x v) = refl
    each (Refused f v) = refl

-- the first rows of some forms and further ones
pub rows-more : (n : ℕ) (K M : List (List ℤ)) → first_rows n (K ++ M) ≡ first_rows n K ++ form_rows n M
rows-more n K M = simp (map-append, append_assoc)

pub point_some : (n : ℕ) (K : List (List ℤ)) (c : List ℤ) → point n (K ++ c ∷ []) ≡ point_run n (K ++ c ∷ [])
point_some zero [] c = refl
point_some zero (d ∷ K) c = refl
point_some (suc n) K c = refl

pub has_point_is : (n : ℕ) (K M : List (List ℤ)) (w : Work) → has_point n (K ++ M) w ≡ finds_point n (first_rows n K ++ form_rows n M) w
has_point_is n K M w = alone_is n (K ++ M) w ∙ ap (λ (rows : List Row). finds_point n rows w) (rows-more n K M)

-- the remembered run of its own forms, with further ones behind them
pub asked_has_point : (n : ℕ) (K M : List (List ℤ)) (m : Remembered) (w : Work) → IsRemembered n K m → has_point n (K ++ M) w ≡ asked m (form_rows m.run.end.unknowns M) w
asked_has_point n K M m w is =
    has_point_is n K M w
    ∙ ap (λ (k : ℕ). finds_point k (first_rows n K ++ form_rows k M) w) (sym is.unknowns)
    ∙ asked_is m (first_rows n K) (form_rows m.run.end.unknowns M) w is.replay

pub known_tells : (n : ℕ) (K M : List (List ℤ)) (m : Remembered) (before now : Work) → IsRemembered n K m → (o : Option (Result Bool code.Refusal))
    → IfSome o (λ r. IsCountedRun (λ b. b) run_fault r before now (asked m (form_rows m.run.end.unknowns M))) → IfSome o (λ r. IsCountedRun (λ b. b) run_fault r before now (has_point n (K ++ M)))
known_tells n K M m before now is None told = told
known_tells n K M m before now is (Some r) told = run_same told (sym (asked_has_point n K M m before is))

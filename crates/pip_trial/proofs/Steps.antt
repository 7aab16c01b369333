-- The steps of the loops that draw: what is left to draw, at the next state.
use Rattle.pip_trial.proofs.Words.{◌≡◌, ◌∙◌, refl, sym, ap, ℕ, suc, ◌+◌, ◌-◌, ◌*◌, ◌<◌, ◌≤◌, ℤ, pos, ◌-ℤ◌, arith, List, [], ◌∷◌, ◌++◌, All, append_assoc, append-nil, All-push, form_of_row, after_draw, after_draws, drawn, numbers_drawn, ranges, row_ranges, rows_drawn, Fits}
use Rattle.pip_trial.proofs.Draws.{after_draws-add}

-- nothing is left, behind what was taken
taken : {A : Type 0} (ks bs es : List A) → bs ≡ [] → ks ++ bs ≡ es → ks ≡ es
taken ks bs es e h = sym (append-nil ks) ∙ ap (λ cs. ks ++ cs) (sym e) ∙ h

-- one more is taken
taken_more : {A : Type 0} (ks bs cs : List A) (x : A) → bs ≡ ks ++ x ∷ [] → bs ++ cs ≡ ks ++ x ∷ cs
taken_more ks bs cs x e = rw (e, append_assoc) refl

-- after i of n coefficients: with those that are left these entries become es, and the state becomes d
pub record Drawing (n i s d : ℕ) (ks es : List ℤ) : Type 0 where
  pub numbers : ks ++ numbers_drawn (ranges (n - i) (9, 4)) s ≡ es
  pub state : after_draws (n - i) s ≡ d
  pub fits : All Fits ks

pub drawing_more : (n i s t d : ℕ) (ks bs es : List ℤ) (z : ℤ) → i < n → z ≡ pos (drawn (after_draw s) 9) -ℤ pos 4 → Fits z → t ≡ after_draw s → bs ≡ ks ++ z ∷ []
    → Drawing n i s d ks es → Drawing n (i + 1) t d bs es
drawing_more n i s t d ks bs es z h value fit state new was =
    let left : n - i ≡ suc (n - (i + 1)) = omega arith in
    record {
      numbers = taken_more ks bs (numbers_drawn (ranges (n - (i + 1)) (9, 4)) t) z new ∙ rw (value, state) (rw left at was.numbers);
      state = rw state (rw left at was.state);
      fits = rw new (All-push Fits ks z was.fits fit);
    }

-- all are drawn
pub drawing_done : (n i s d : ℕ) (ks es : List ℤ) → n ≤ i → Drawing n i s d ks es → (ks ≡ es) × (s ≡ d)
drawing_done n i s d ks es h was =
    let none : n - i ≡ 0 = omega arith in
    (taken ks (numbers_drawn (ranges (n - i) (9, 4)) s) es (rw none refl) was.numbers, rw none at was.state)

-- after i of l rows
pub record DrawingRows (n m l i s d : ℕ) (rows es : List (List ℤ)) : Type 0 where
  pub rows_are : rows ++ rows_drawn n m (l - i) s ≡ es
  pub state : after_draws ((l - i) * (n + 1 + m)) s ≡ d

pub rows_more : (n m l i s t d : ℕ) (rows bs es : List (List ℤ)) (c : List ℤ) → i < l → c ≡ form_of_row n (numbers_drawn (row_ranges n m) s) → t ≡ after_draws (n + 1 + m) s
    → bs ≡ rows ++ c ∷ [] → DrawingRows n m l i s d rows es → DrawingRows n m l (i + 1) t d bs es
rows_more n m l i s t d rows bs es c h value state new was =
    let left : l - i ≡ suc (l - (i + 1)) = omega arith in
    let draws : (l - i) * (n + 1 + m) ≡ (n + 1 + m) + (l - (i + 1)) * (n + 1 + m) = rw left (omega arith) in
    record {
      rows_are = taken_more rows bs (rows_drawn n m (l - (i + 1)) t) c new ∙ rw (value, state) (rw left at was.rows_are);
      state = rw state (sym (after_draws-add (n + 1 + m) ((l - (i + 1)) * (n + 1 + m)) s) ∙ rw draws at was.state);
    }

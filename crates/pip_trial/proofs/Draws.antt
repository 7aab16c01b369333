-- What is drawn, part by part, and that drawn problems are within the limits.
use Rattle.pip_trial.proofs.Words.{◌≡◌, ◌∙◌, refl, sym, ap, ℕ, zero, suc, ◌+◌, ◌*◌, ◌<◌, ◌^◌, ◌/◌, ℤ, pos, ◌-ℤ◌, arith, true, List, [], ◌∷◌, ◌++◌, length, drop, unsigned_abs, lit<, length-append, take_at, drop_at, drop-drop, get_or_at, form_of_row, Problem, after_draw, after_draws, drawn, numbers_drawn, ranges, row_ranges, rows_drawn, problem_drawn, draws_of}
use Rattle.std.proofs.lemmas.Nat.{mod_below}
use Rattle.std.proofs.lemmas.Int.{ints}
use Rattle.std.proofs.lemmas.Bool.{lt-ltb}
use Rattle.std.specs.List.{AllByRecursion}
use Rattle.pip_model.specs.Numbers.{fits}
use Rattle.pip_model.specs.Listed.{all_fit}
use Rattle.pip_model.specs.WellFormed.{IsRow, IsProblem}
use Rattle.pip_model.proofs.Fitting.{fit_cons, fit_join}

pub after_draws-add : (a b s : ℕ) → after_draws (a + b) s ≡ after_draws b (after_draws a s)
after_draws-add zero b s = let e : zero + b ≡ b = omega arith in rw e refl
after_draws-add (suc a) b s = let e : suc a + b ≡ suc (a + b) = omega arith in rw e (after_draws-add a b (after_draw s))

length-ranges : (n : ℕ) (r : ℕ × ℕ) → length (ranges n r) ≡ n
length-ranges zero r = refl
length-ranges (suc n) r = ap suc (length-ranges n r)

length-numbers_drawn : (rs : List (ℕ × ℕ)) (s : ℕ) → length (numbers_drawn rs s) ≡ length rs
length-numbers_drawn [] s = refl
length-numbers_drawn (r ∷ rs) s = ap suc (length-numbers_drawn rs (after_draw s))

numbers_drawn-append : (rs qs : List (ℕ × ℕ)) (s : ℕ) → numbers_drawn (rs ++ qs) s ≡ numbers_drawn rs s ++ numbers_drawn qs (after_draws (length rs) s)
numbers_drawn-append [] qs s = refl
numbers_drawn-append (r ∷ rs) qs s = ap (λ zs. (pos (drawn (after_draw s) r.0) -ℤ pos r.1) ∷ zs) (numbers_drawn-append rs qs (after_draw s))

-- so many coefficients from the state s on
abbrev pub coefficients : ℕ → ℕ → List ℤ
coefficients n s = numbers_drawn (ranges n (9, 4)) s

length-coefficients : (n s : ℕ) → length (coefficients n s) ≡ n
length-coefficients n s = length-numbers_drawn (ranges n (9, 4)) s ∙ length-ranges n (9, 4)

constant_moved : (n : ℕ) (ks bs : List ℤ) (c : ℤ) → length ks ≡ n → form_of_row n (ks ++ c ∷ bs) ≡ ks ++ bs ++ c ∷ []
constant_moved n ks bs c h =
    let rest : drop (n + 1) (ks ++ c ∷ bs) ≡ bs = sym (drop-drop 1 n (ks ++ c ∷ bs)) ∙ ap (drop 1) (drop_at ks (c ∷ bs) n h) in
    rw (take_at ks (c ∷ bs) n h, rest, get_or_at ks c bs (pos 0) n h) refl

-- the form of a row that is drawn: the constant stands last
row_parts : (n m s : ℕ) → form_of_row n (numbers_drawn (row_ranges n m) s)
    ≡ coefficients n s ++ coefficients m (after_draw (after_draws n s)) ++ (pos (drawn (after_draw (after_draws n s)) 21) -ℤ pos 10) ∷ []
row_parts n m s =
    rw (numbers_drawn-append (ranges n (9, 4)) ((21, 10) ∷ ranges m (9, 4)) s, length-ranges n (9, 4))
    (constant_moved n (coefficients n s) (coefficients m (after_draw (after_draws n s))) (pos (drawn (after_draw (after_draws n s)) 21) -ℤ pos 10) (length-coefficients n s))

pub row_made : (n m s t u : ℕ) (none first both whole : List ℤ) (z : ℤ) → none ≡ [] → first ≡ none ++ coefficients n s → t ≡ after_draws n s
    → z ≡ pos (drawn (after_draw t) 21) -ℤ pos 10 → u ≡ after_draw t → both ≡ first ++ coefficients m u → whole ≡ both ++ z ∷ []
    → whole ≡ form_of_row n (numbers_drawn (row_ranges n m) s)
row_made n m s t u none first both whole z empty before state value next behind last =
    rw (last, behind, before, empty, value, next, state) (sym (row_parts n m s))

pub row_draws : (n m s t u v : ℕ) → t ≡ after_draws n s → u ≡ after_draw t → v ≡ after_draws m u → v ≡ after_draws (n + 1 + m) s
row_draws n m s t u v state next last =
    rw (last, next, state) (sym (after_draws-add (n + 1) m s ∙ ap (after_draws m) (after_draws-add n 1 s)))

-- the draws of the numbers of unknowns, of parameters and of rows, and of the mode, and then the rows
pub problem_draws : (s t u v w x n m l : ℕ) → t ≡ after_draw s → n ≡ drawn (after_draw s) 3 → u ≡ after_draw t → m ≡ drawn (after_draw t) 3 → v ≡ after_draw u → l ≡ drawn (after_draw u) 4
    → w ≡ after_draw v → x ≡ after_draws ((1 + l) * (1 + n + 1 + m)) w → x ≡ after_draws (draws_of s) s
problem_draws s t u v w x n m l first unknowns second params third rows fourth last =
    rw (last, fourth, rows, third, params, second, unknowns, first)
    (sym (after_draws-add 4 ((1 + drawn (after_draws 3 s) 4) * (1 + drawn (after_draws 1 s) 3 + 1 + drawn (after_draws 2 s) 3)) s))

-- ---- within the limits

number_fits : (s k o : ℕ) → 0 < k → k < 2 ^ 64 → o < 2 ^ 64 → fits (pos (drawn s k) -ℤ pos o) ≡ true
number_fits s k o p h l =
    let below = mod_below (s / 2 ^ 33) k p in
    lt-ltb (unsigned_abs (pos (drawn s k) -ℤ pos o)) (2 ^ 127) (omega (arith, ints, below))

coefficients_fit : (n s : ℕ) → all_fit (coefficients n s) ≡ true
coefficients_fit zero s = refl
coefficients_fit (suc n) s =
    fit_cons (pos (drawn (after_draw s) 9) -ℤ pos 4) (coefficients n (after_draw s)) (number_fits (after_draw s) 9 4 (lit< tt) (lit< tt) (lit< tt)) (coefficients_fit n (after_draw s))

row_drawn : (n m s : ℕ) → IsRow (n + m) (form_of_row n (numbers_drawn (row_ranges n m) s))
row_drawn n m s =
    let t = after_draw (after_draws n s) in
    let c = pos (drawn t 21) -ℤ pos 10 in
    rw (row_parts n m s) (record {
      wide = simp length-append (omega (arith, length-coefficients n s, length-coefficients m t));
      fitting = fit_join (coefficients n s ++ coefficients m t) (c ∷ [])
          (fit_join (coefficients n s) (coefficients m t) (coefficients_fit n s) (coefficients_fit m t))
          (fit_cons c [] (number_fits t 21 10 (lit< tt) (lit< tt) (lit< tt)) refl);
    })

length-rows_drawn : (n m l s : ℕ) → length (rows_drawn n m l s) ≡ l
length-rows_drawn n m zero s = refl
length-rows_drawn n m (suc l) s = ap suc (length-rows_drawn n m l (after_draws (n + 1 + m) s))

rows_drawn-rows : (n m l s : ℕ) → AllByRecursion (IsRow (n + m)) (rows_drawn n m l s)
rows_drawn-rows n m zero s = tt
rows_drawn-rows n m (suc l) s = (row_drawn n m s, rows_drawn-rows n m l (after_draws (n + 1 + m) s))

drawn_below : (s k : ℕ) → 0 < k → drawn s k < k
drawn_below s k p = mod_below (s / 2 ^ 33) k p

problem_drawn-formed : (s : ℕ) → IsProblem (problem_drawn s)
problem_drawn-formed s =
    let p = problem_drawn s in
    let few = drawn_below (after_draws 1 s) 3 (lit< tt) in
    let fewer = drawn_below (after_draws 2 s) 3 (lit< tt) in
    let rows = drawn_below (after_draws 3 s) 4 (lit< tt) in
    record {
      some_unknowns = omega arith;
      few_unknowns = omega (arith, few);
      few_params = omega (arith, fewer);
      few_rows = omega (arith, rows, length-rows_drawn p.unknowns p.params (1 + drawn (after_draws 3 s) 4) (after_draws 4 s));
      few_context_rows = omega arith;
      rows = rows_drawn-rows p.unknowns p.params (1 + drawn (after_draws 3 s) 4) (after_draws 4 s);
      context = tt;
    }

pub formed_as : (s : ℕ) (p : Problem) → p ≡ problem_drawn s → IsProblem p
formed_as s p e = rw e (problem_drawn-formed s)

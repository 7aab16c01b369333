-- The run of a problem without parameters, from its first node.
use Rattle.std.proofs.Common.{◌≡◌, ◌∙◌, ap, ap₂, sym, refl, ℕ, zero, suc, ◌+◌, arith, Bool, true, false, List, [], ◌∷◌, length, ℤ}
use Rattle.std.specs.Prelude.{map}
use Rattle.std.specs.List.{AllByRecursion}
use Rattle.std.proofs.lemmas.List.{length-drop}
use Rattle.pip_model.specs.Contexts.{IsContext}
use Rattle.pip_model.specs.Forms.{tighten, widen_to}
use Rattle.pip_model.specs.Problem.{Problem}
use Rattle.pip_model.specs.Rows.{Row, form_row, unit_row, count_from, start, started}
use Rattle.pip_model.specs.Run.{Work, run_from, setting, first_node, class}
use Rattle.pip_model.specs.WellFormed.{IsRow}
use Rattle.pip_model.proofs.Forms.{widen_same}
use Rattle.pip_model.proofs.Tests.{every-append}
use Rattle.run_laws.proofs.Lengths.{length_zeros, length_tighten}
use Rattle.run_laws.proofs.RowsAt.{FormsWide}
use Rattle.plain_laws.specs.Plain.{plain_setting, node_over}
use Rattle.plain_laws.proofs.Plain.{plain_run}

-- forms over n unknowns alone
abbrev pub Alone : ℕ → List (List ℤ) → Type 0
Alone n forms = AllByRecursion (λ (c : List ℤ). length c ≡ n + 1) forms

units_wide : (n i k : ℕ) → FormsWide 1 (map (unit_row n 0) (count_from i k))
units_wide n i zero = tt
units_wide n i (suc k) = (length_zeros (0 + 1), units_wide n (i + 1) k)

forms_wide : (n : ℕ) (forms : List (List ℤ)) → Alone n forms → FormsWide 1 (map (form_row n) forms)
forms_wide n [] h = tt
forms_wide n (c ∷ forms) h = (length-drop n c ∙ omega (arith, h.0), forms_wide n forms h.1)

pub start_wide : (n : ℕ) (forms : List (List ℤ)) → Alone n forms → FormsWide 1 (start n 0 forms)
start_wide n forms h = every-append (λ (r : Row). length r.constant ≡ 1) (map (unit_row n 0) (count_from 0 n)) (map (form_row n) forms) (units_wide n 0 n) (forms_wide n forms h)

same_forms : (n : ℕ) (forms : List (List ℤ)) → Alone n forms → map (widen_to n) forms ≡ forms
same_forms n [] h = refl
same_forms n (c ∷ forms) h = ap₂ (λ (d : List ℤ) ds. d ∷ ds) (widen_same n c h.0) (same_forms n forms h.1)

tight_alone : (n : ℕ) (forms : List (List ℤ)) → Alone n forms → Alone n (map tighten forms)
tight_alone n [] h = tt
tight_alone n (c ∷ forms) h = (length_tighten c ∙ h.0, tight_alone n forms h.1)

started_alone : (n : ℕ) (b : Bool) (forms : List (List ℤ)) → Alone n forms → Alone n (started b forms)
started_alone n true forms h = tight_alone n forms h
started_alone n false forms h = h

rows_alone : (n m : ℕ) (rows : List (List ℤ)) → m ≡ 0 → AllByRecursion (IsRow (n + m)) rows → Alone n rows
rows_alone n m [] e h = tt
rows_alone n m (c ∷ rows) e h = (omega (arith, e, h.0.wide), rows_alone n m rows e h.1)

-- a problem without parameters is run as its rows alone
pub problem_run : (P : Problem) (w : Work) → P.params ≡ 0 → AllByRecursion (IsRow (P.unknowns + P.params)) P.rows
    → run_from (plain_setting P.unknowns P.integer) (node_over [] (start P.unknowns 0 (map (widen_to P.unknowns) (started P.integer P.rows)))) w ≡ run_from (setting P) (first_node P) w
problem_run P w e rows =
    let forms = started P.integer P.rows in
    let alone = started_alone P.unknowns P.integer P.rows (rows_alone P.unknowns P.params P.rows e rows) in
    ap (λ (fs : List (List ℤ)). run_from (plain_setting P.unknowns P.integer) (node_over [] (start P.unknowns 0 fs)) w) (same_forms P.unknowns forms alone)
    ∙ sym (plain_run P.unknowns P.integer P.context (start P.unknowns 0 forms) (start_wide P.unknowns forms alone) w)
    ∙ ap (λ (m : ℕ). run_from (record { unknowns = P.unknowns; params = m; integer = P.integer; class = class }) (record { rows = start P.unknowns m forms; context = P.context; quotients = []; depth = 0 }) w) (sym e)

-- what such a problem starts from
pub problem_forms : (P : Problem) → P.params ≡ 0 → AllByRecursion (IsRow (P.unknowns + P.params)) P.rows → Alone P.unknowns (started P.integer P.rows)
problem_forms P e rows = started_alone P.unknowns P.integer P.rows (rows_alone P.unknowns P.params P.rows e rows)

pub narrow_forms : (n : ℕ) (forms : List (List ℤ)) → Alone n forms → IsContext n forms
narrow_forms n [] h = tt
narrow_forms n (c ∷ forms) h = (record { some = omega (arith, h.0); most = omega (arith, h.0) }, narrow_forms n forms h.1)

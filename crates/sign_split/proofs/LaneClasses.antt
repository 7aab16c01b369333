-- The class of a form by its sign in lanes.
use Rattle.sign_split.proofs.Words.{◌≡◌, ap, sym, ◌∙◌, ◌+◌, ◌-◌, ◌<◌, ◌≤◌, ℕ, ℤ, arith, List, length, None, Result, Ok, Err, IfOk, IfErr, tighten, length_tighten, run_fault, Work, Done, class_by_points, class_of, IsNarrow, IsCountedRun, lanes_of, form_in}
use Rattle.pip_problem.specs.declared.refusal.Refusal.{Refusal}
use Rattle.context_points.specs.Signs.{class_of_sign}
use Rattle.context_points.specs.LaneSign.{LaneSign}
use Rattle.context_points.proofs.TightLanes.{form_again}
use Rattle.sign_split.specs.declared.classes.Class.{Class}

pub tight_narrow : (w : ℕ) (c : List ℤ) → 0 < length c → length c ≤ w + 1 → IsNarrow w (tighten c)
tight_narrow w c some most = record { some = omega (arith, some, length_tighten c); most = omega (arith, most, length_tighten c) }

-- the tightened form stands in lanes
pub tight_again : (c form : List ℤ) (places : ℕ) → form ≡ lanes_of (tighten c) → 0 < length c → length c ≤ 8 → places ≡ length c - 1 → form_in places form ≡ tighten c
tight_again c form places is some few at =
    let long = length_tighten c in
    let same : places ≡ length (tighten c) - 1 = omega (arith, long, at) in
    ap (form_in places) is ∙ ap (λ (w : ℕ). form_in w (lanes_of (tighten c))) same ∙ form_again (tighten c) (omega (arith, long, some)) (omega (arith, long, few))

module _ (w : ℕ) (K : List (List ℤ)) (t : List ℤ) (before after : Work) (sign : LaneSign) (asked : IsCountedRun (class_of_sign t) run_fault (Ok sign) before after (class_by_points w K t)) where
  pub class_by_sign : (f : List ℤ) (r : Result Class Refusal) → f ≡ t → IfOk r (λ c. class_of c ≡ class_of_sign f sign) → IfErr r (λ e. run_fault e ≡ None)
      → IsCountedRun class_of run_fault r before after (class_by_points w K t)
  class_by_sign f (Ok c) is class refused = record { agrees = asked.agrees ∙ ap (λ x. Done x after) (sym (class ∙ ap (λ (u : List ℤ). class_of_sign u sign) is)); counted = asked.counted }
  class_by_sign f (Err e) is class refused = record { agrees = rw refused tt; counted = asked.counted }

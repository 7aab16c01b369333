-- From the answer of a run to its text.
use Rattle.solve_items.proofs.Words.{◌≡◌, ap, ℕ, Bool, List, Ok, if◌then◌else◌, Problem, Answer, spell}
use Rattle.pip_model.specs.Run.{Budget, Outcome, Done, Refused, answered, solve}
use Rattle.pip_model.specs.Simplified.{simplified}
use Rattle.pip_model.specs.Values.{simplified_by}
use Rattle.program_model.specs.ItemTexts.{outcome_text, solved_text}

abbrev shown : Bool → Problem → Answer → List ℕ
shown simpler P a = spell P.comment (if simpler then simplified_by simplified a else a)

of_run : (simpler : Bool) (P : Problem) (o : Outcome Answer) (a : Answer) → answered o ≡ Ok a → outcome_text simpler P o ≡ Ok (shown simpler P a)
of_run simpler P (Done x w) a h = let same : x ≡ a = cc in ap (λ (y : Answer). Ok (shown simpler P y)) same
of_run simpler P (Refused e w) a h = cc

pub solved_ok : (simpler : Bool) (b : Budget) (P : Problem) (a : Answer) → answered (solve b P) ≡ Ok a → solved_text simpler b P ≡ Ok (spell P.comment (if simpler then simplified_by simplified a else a))
solved_ok simpler b P a h = of_run simpler P (solve b P) a h

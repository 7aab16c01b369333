-- The text that a command makes of an item, or the end where the item is refused.
use Rattle.std.specs.Prelude.{ℕ, ℤ, Bool, List, ◌++◌, codes, Option, Some, None, Result, Ok, Err, if◌then◌else◌}
use Rattle.pip_model.specs.Listed.{all_fit}
use Rattle.pip_model.specs.Problem.{Problem}
use Rattle.pip_model.specs.Tree.{Answer}
use Rattle.pip_model.specs.Reading.{◌>>◌}
use Rattle.pip_model.specs.TreeText.{spell, spell_form, Commented}
use Rattle.pip_model.specs.Simplified.{simplified}
use Rattle.pip_model.specs.Values.{answer_at, answer_at_listed, simplified_by}
use Rattle.pip_model.specs.Run.{Budget, start_work, Outcome, Done, Refused, Overflow, solve}
use Rattle.pip_model.specs.Certificate.{Certificate, spell_certificate}
use Rattle.pip_model.specs.Check.{check, Checks}
use Rattle.pip_model.specs.Share.{share}
use Rattle.pip_model.specs.Made.{solve_with_certificate}
use Rattle.pip_model.specs.Walks.{Walked, Made, Stopped}
use Rattle.pip_model.specs.Tools.{restrict, Sameness, Same, Differ, same, least}
use Rattle.pip_model.specs.PieceText.{answer_listed, spell_pieces}
use Rattle.program_model.specs.Endings.{Ending, refusal_ending, tool_ending, check_ending}
use Rattle.program_model.specs.ItemKinds.{is_certifiable, Triple, Pair, Trio}

-- ---- solve

-- the run's answer, simplified where that is asked for
abbrev pub outcome_text : Bool → Problem → Outcome Answer → Result (List ℕ) Ending
outcome_text simpler P (Done a w) = Ok (spell P.comment (if simpler then simplified_by simplified a else a))
outcome_text simpler P (Refused e w) = Err (refusal_ending e)

abbrev pub solved_text : Bool → Budget → Problem → Result (List ℕ) Ending
solved_text simpler b P = outcome_text simpler P (solve b P)

-- the run's answer, and then its certificate
abbrev pub certified_answer_text : Problem → Answer → Option Certificate → Result (List ℕ) Ending
certified_answer_text P a (Some c) = Ok (spell P.comment a ++ spell_certificate c)
certified_answer_text P a None = Err (refusal_ending Overflow)

abbrev pub certified_outcome : Problem → Outcome (Answer × Option Certificate) → Result (List ℕ) Ending
certified_outcome P (Done x w) = certified_answer_text P x.0 x.1
certified_outcome P (Refused e w) = Err (refusal_ending e)

-- a rational problem is refused before its run
abbrev pub certified_text : Budget → Problem → Result (List ℕ) Ending
certified_text b P = do
  is_certifiable P
  certified_outcome P (solve_with_certificate b P)

-- ---- eval, simplify and pieces

-- the answer's value, over no parameters
abbrev pub value_text : List ℤ → Commented → Result (List ℕ) Ending
value_text u s =
    if all_fit (answer_at_listed s.answer u) then Ok (spell s.comment (answer_at s.answer u))
    else Err (refusal_ending Overflow)

abbrev pub simplified_text : Commented → Result (List ℕ) Ending
simplified_text s = Ok (spell s.comment (simplified_by simplified s.answer))

abbrev pub pieces_text : Commented → Result (List ℕ) Ending
pieces_text s =
    if all_fit (answer_listed s.answer) then Ok (spell_pieces s.comment s.answer) else Err (refusal_ending Overflow)

-- ---- check and share

abbrev pub verdict_text : Checks (Unit {0}) → Result (List ℕ) Ending
verdict_text (Ok u) = Ok (codes "accepted\n")
verdict_text (Err f) = Err (check_ending f)

abbrev pub checked_text : Triple → Result (List ℕ) Ending
checked_text t = verdict_text (check t.problem t.answer t.certificate)

-- the certificate with shared steps, where the check accepts it
abbrev pub certificate_text : Checks (Unit {0}) → Certificate → Result (List ℕ) Ending
certificate_text (Ok u) c = Ok (spell_certificate c)
certificate_text (Err f) c = Err (check_ending f)

abbrev pub shared_text : Triple → Result (List ℕ) Ending
shared_text t = certificate_text (check t.problem t.answer t.certificate) (share t.problem t.answer t.certificate)

-- ---- restrict, same and least: walks over m parameters, each with a budget of its own

-- the answer that a walk makes, with a comment
abbrev pub made_text : List ℕ → Walked Answer → Result (List ℕ) Ending
made_text comment (Made a w) = Ok (spell comment a)
made_text comment (Stopped e w) = Err (tool_ending e)

-- `same`, or `differ` and the vector
abbrev pub sameness_text : Sameness → List ℕ
sameness_text Same = codes "same\n"
sameness_text (Differ p) = codes "differ " ++ spell_form p ++ codes "\n"

abbrev pub made_line : Walked Sameness → Result (List ℕ) Ending
made_line (Made s w) = Ok (sameness_text s)
made_line (Stopped e w) = Err (tool_ending e)

abbrev pub restricted_text : Budget → ℕ → Pair → Result (List ℕ) Ending
restricted_text b m p = made_text p.first.comment (restrict m p.rows p.first.answer (start_work b))

abbrev pub same_text : Budget → ℕ → Trio → Result (List ℕ) Ending
same_text b m t = made_line (same m t.rows t.first.answer t.second.answer (start_work b))

abbrev pub least_text : Budget → ℕ → Trio → Result (List ℕ) Ending
least_text b m t = made_text t.first.comment (least m t.rows t.first.answer t.second.answer (start_work b))

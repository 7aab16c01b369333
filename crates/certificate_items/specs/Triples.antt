-- A problem, an answer and a certificate, and what the check finds of them.
use Rattle.std.specs.Prelude.{◌≡◌, true, IfSome, Result, Ok, Err}
use Rattle.pip_model.specs.Check.{Checks}
use Rattle.program_model.specs.Endings as model
use Rattle.program_model.specs.ItemKinds as kinds
use Rattle.quast.specs.Answers.{answer_of, IsOver}
use Rattle.item_writing.specs.Endings.{told}
use Rattle.item_writing.specs.declared.ending.Ending.{Ending}
use Rattle.certificate_items.specs.declared.triple.Triple.{Triple}

abbrev pub triple_of : Triple → kinds.Triple
triple_of t = record { problem = t.problem; answer = answer_of t.answer; certificate = t.certificate }

-- whole points are asked for, and the answer is over the problem's parameters
pub record IsTriple (t : Triple) : Type 0 where
  pub integer : t.problem.integer ≡ true
  pub scope : IsOver t.problem.params t.answer

-- the end at a fault that the check finds
abbrev pub verdict : Checks (Unit {0}) → Result (Unit {0}) model.Ending
verdict (Ok u) = Ok u
verdict (Err f) = Err (model.check_ending f)

-- no fault, or the end at the first one; nothing is said of want of memory
abbrev pub IsFound : Result (Unit {0}) Ending → Checks (Unit {0}) → Type 0
IsFound (Ok u) found = found ≡ Ok tt
IsFound (Err e) found = IfSome (told e) (λ f. verdict found ≡ Err f)

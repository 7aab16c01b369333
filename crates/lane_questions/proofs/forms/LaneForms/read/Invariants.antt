use Rattle.lane_questions.proofs.Words.{◌≡◌, length, AreFirst}
use Rattle.lane_questions.proofs.forms.LaneForms.read.Given as goal

abbrev pub invariant-loop-i : goal.invariant-loop-i
invariant-loop-i l = record { first : AreFirst l.forms l.self.forms; place : l.i ≡ length l.self.forms }

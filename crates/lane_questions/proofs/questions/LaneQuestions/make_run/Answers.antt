use Rattle.lane_questions.proofs.Words.{ap, sym, subst, ◌≡◌, ◌∙◌, ℕ, ℤ, List, false, the_view, all_lanes, LaneState, IsAsking, IsBegun, unkept}
use Rattle.lane_questions.specs.InLanes.{AreFirst}
use Rattle.lane_questions.proofs.AskingLaws.{asking_read, asking_unkept, unkept_from, asked_first, same_earlier}
use Rattle.lane_questions.proofs.questions.LaneQuestions.make_run.Goals as goal

read_on : (n : ℕ) (K : List (List ℤ)) (s t : LaneState) (forms : List (List ℤ)) → s ≡ t → IsAsking n K t → t.tried ≡ false → AreFirst K forms → IsAsking n K (record s { forms = forms })
read_on n K s t forms e was untried first = asking_read n K s (subst (IsAsking n K) (sym e) was) forms first (ap (λ (u : LaneState). u.tried) e ∙ untried)

pub returns-then-not-read-clause-asking : goal.returns-then-not-read-clause-asking
returns-then-not-read-clause-asking c =
    let n = c.args.places in
    let K = c.args.forms.now in
    asking_unkept n K (record (the_view c.self.inside) { forms = c.read.new.self.forms }) (read_on n K (the_view c.self.inside) c.args.self.now c.read.new.self.forms c.self.view_is c.requires.asking c.requires.untried c.read.ensures.first) n

pub returns-then-not-begin-clause-asking : goal.returns-then-not-begin-clause-asking
returns-then-not-begin-clause-asking c =
    let n = c.args.places in
    let K = c.args.forms.now in
    c.begin.ensures.asking K (read_on n K (the_view c.self.inside) c.args.self.now c.read.new.self.forms c.self.view_is c.requires.asking c.requires.untried c.read.ensures.first)

pub returns-clause-asking : goal.returns-clause-asking
returns-clause-asking c =
    let n = c.args.places in
    let K = c.args.forms.now in
    let read = read_on n K (the_view c.self.inside) c.args.self.now c.read.new.self.forms c.self.view_is c.requires.asking c.requires.untried c.read.ensures.first in
    let begun : IsAsking n K (unkept (the_view c.self-2.inside)) = subst (λ (s : LaneState). IsAsking n K (unkept s)) (sym c.self-2.view_is) (c.begin.ensures.asking K read) in
    unkept_from n K (unkept (the_view c.self-2.inside)) begun n (record (the_view c.self-2.inside) { kept = c.extend.new.self }) (asked_first n K (unkept (the_view c.self-2.inside)) begun) (same_earlier n K (unkept (the_view c.self-2.inside)) begun)

pub returns-clause-made : goal.returns-clause-made
returns-clause-made c told =
    let n = c.args.places in
    let K = c.args.forms.now in
    let read = read_on n K (the_view c.self.inside) c.args.self.now c.read.new.self.forms c.self.view_is c.requires.asking c.requires.untried c.read.ensures.first in
    let all : c.read.new.self.forms ≡ all_lanes K = c.read.ensures.all c.if-not-read.false in
    let forms : c.self-2.inside.forms.forms ≡ all_lanes K = ap (λ (s : LaneState). s.forms) c.self-2.view_is ∙ c.begin.ensures.forms ∙ all in
    let begun : IsBegun n K (the_view c.self-2.inside) = subst (IsBegun n K) (sym c.self-2.view_is) (c.begin.ensures.begun c.if-not-begin.false K read) in
    record { forms = forms; kept = c.extend.ensures told n c.self-2.inside.known K c.requires.context forms begun.kept }

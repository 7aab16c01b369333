use Rattle.lane_questions.proofs.Words.{rules, arith, refl, ap, sym, subst, ◌≡◌, ◌++◌, [], ◌∷◌, ℤ, List, norm, IsBehind, AreWithin, LaneVertex}
use Rattle.lane_questions.proofs.AskedBehind.{behind}
use Rattle.lane_questions.proofs.FormLanes.{within_pushed}
use Rattle.lane_questions.proofs.kept.KeptLanes.ask_readable.Goals as goal

pub find-requires-clause-within : goal.find-requires-clause-within
find-requires-clause-within c =
    subst (λ (xs : List (List ℤ)). AreWithin c.args.forms.norm (c.args.forms.forms.now ++ xs)) (sym (search rules))
    (within_pushed c.args.forms.norm (norm c.args.form) c.args.forms.norm c.args.forms.forms.now c.args.form (omega arith) c.requires.form.norm c.requires.within c.requires.form.lanes refl)

pub returns-clause-gives : goal.returns-clause-gives
returns-clause-gives c = λ n K form is.
    let one : c.from_ref.result.now ≡ c.args.form ∷ [] = search rules in
    let within = within_pushed c.args.forms.norm (norm c.args.form) c.args.forms.norm c.args.forms.forms.now c.args.form (omega arith) c.requires.form.norm c.requires.within c.requires.form.lanes refl in
    let last = behind n K form c.args.forms.forms.now c.args.form c.args.self.now is c.args.forms.norm c.read-row.result c.self.inside.rows (ap (λ (v : LaneVertex). v.table) c.self.view_is) within c.requires.small c.read-row.ensures.value in
    c.find.ensures.gives n K form (subst (λ (xs : List (List ℤ)). IsBehind n K form (c.args.forms.forms.now ++ xs) c.read-row.result c.args.self.now) (sym one) last)

use Rattle.lane_questions.proofs.Words.{rules, ◌≡◌, ◌∙◌, drop, gcd_of}
use Rattle.lane_questions.proofs.TightLanes.{kept_lanes, divided_lanes}
use Rattle.lane_questions.proofs.forms.tightened.Goals as goal

pub returns-then-d-le1-clause-value : goal.returns-then-d-le1-clause-value
returns-then-d-le1-clause-value c =
    kept_lanes c.divisor-d.result c.args.entries.now c.in_ok-form.form (search rules) (search rules) (search rules) (search rules)

pub returns-clause-value : goal.returns-clause-value
returns-clause-value c =
    let is : c.divisor-d.result ≡ gcd_of (drop 1 c.in_ok-form.form) = search rules in
    (search rules) ∙ divided_lanes c.divisor-d.result c.args.entries.now c.in_ok-form.form (search rules) is (search rules) c.requires.some

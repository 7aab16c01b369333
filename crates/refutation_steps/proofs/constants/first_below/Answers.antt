use Rattle.refutation_steps.proofs.Words.{rules, ◌∙◌, ap, sym, arith, map, form_row, widen_to, form_rows, negative_from, length-map, drop_all}
use Rattle.refutation_steps.proofs.NoPlaces.{ends_here, goes_on}
use Rattle.refutation_steps.proofs.constants.first_below.Goals as goal

pub returns-then-at-lt0-clause-value : goal.returns-then-at-lt0-clause-value
returns-then-at-lt0-clause-value c =
    sym (ends_here c.args.forms.now c.loop-i.i c.index-forms-i.result c.loop-i-test.true c.index-forms-i.is c.requires (search rules)) ∙ c.loop-i.invariant

pub loop-i-preserved : goal.loop-i-preserved
loop-i-preserved c =
    goes_on c.args.forms.now c.loop-i.i c.index-forms-i.result c.loop-i-test.true c.index-forms-i.is c.requires (search rules) ∙ c.loop-i.invariant

pub returns-clause-value : goal.returns-clause-value
returns-clause-value c =
    let rows = form_rows 0 c.args.forms.now in
    ap (negative_from c.loop-i.i) (sym (drop_all c.loop-i.i rows (omega (arith, length-map (map (widen_to 0) c.args.forms.now) (form_row 0), length-map c.args.forms.now (widen_to 0), c.loop-i.auto.i-end)))) ∙ c.loop-i.invariant

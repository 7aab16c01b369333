use Rattle.lane_run.proofs.Words.{◌≡◌, ◌++◌, None, drop, negative_from, AreNotBelow, IsFirstRowBelow, run_rows, forms_of, IsRowBelow}
use Rattle.lane_run.proofs.Parts.{columns_above, column_below}
use Rattle.lane_run.proofs.Passed.{some_passed, none_passed}
use Rattle.lane_run.proofs.RowBelow.{front_read, back_read, of_column, of_form, of_further, of_cut, none_of_all}
use Rattle.lane_run.proofs.turn.row_below.Goals as goal

pub returns-in-Some-clause-some : goal.returns-in-Some-clause-some
returns-in-Some-clause-some c =
    let t = c.args.rows.now in
    of_column t c.args.forms.forms.now c.args.forms.further.now c.row.result
    (column_below t t.most c.scale.ensures.rows c.unknowns.ensures.rows c.in-Some.k c.row.result c.in-Some.ensures.some c.in-Some.ensures.below c.in-Some.ensures.before
    c.row.ensures.laned.lanes c.row.ensures.laned.unused c.row.ensures.value)

pub form_below-requires : goal.form_below-requires
form_below-requires c = front_read c.args.rows.now.most c.args.forms.norm c.args.forms.forms.now c.args.forms.further.now c.requires.within c.requires.readable

pub returns-in-Some-form_below-clause-some : goal.returns-in-Some-form_below-clause-some
returns-in-Some-form_below-clause-some c =
    let t = c.args.rows.now in
    of_form t c.args.forms.forms.now c.args.forms.further.now (columns_above t t.most c.scale.ensures.rows c.unknowns.ensures.rows c.in_default.ensures.none)
    c.in-Some-form_below.row c.in-Some-form_below.ensures.some

pub form_below-requires-2 : goal.form_below-requires-2
form_below-requires-2 c = back_read c.args.rows.now.most c.args.forms.norm c.args.forms.forms.now c.args.forms.further.now c.requires.within c.requires.readable

pub returns-in-Some-form_below-2-clause-some : goal.returns-in-Some-form_below-2-clause-some
returns-in-Some-form_below-2-clause-some c =
    let t = c.args.rows.now in
    of_further t c.args.forms.forms.now c.args.forms.further.now (columns_above t t.most c.scale.ensures.rows c.unknowns.ensures.rows c.in_default.ensures.none)
    c.in_default-form_below.ensures.none c.in-Some-form_below-2.row c.in-Some-form_below-2.ensures.some

pub returns-clause-some : goal.returns-clause-some
returns-clause-some c =
    let t = c.args.rows.now in
    let A = c.args.forms.forms.now in
    let B = c.args.forms.further.now in
    some_passed c.cut_below.result (IsFirstRowBelow t (drop t.unknowns t.rows)) (IsRowBelow t (forms_of t.unknowns (A ++ B)))
    (of_cut t A B (columns_above t t.most c.scale.ensures.rows c.unknowns.ensures.rows c.in_default.ensures.none) c.in_default-form_below.ensures.none c.in_default-form_below-2.ensures.none)
    c.cut_below.ensures.some

pub returns-clause-none : goal.returns-clause-none
returns-clause-none c =
    let t = c.args.rows.now in
    let A = c.args.forms.forms.now in
    let B = c.args.forms.further.now in
    none_passed c.cut_below.result (AreNotBelow (drop t.unknowns t.rows)) (negative_from 0 (run_rows t (forms_of t.unknowns (A ++ B))) ≡ None)
    (none_of_all t A B (columns_above t t.most c.scale.ensures.rows c.unknowns.ensures.rows c.in_default.ensures.none) c.in_default-form_below.ensures.none c.in_default-form_below-2.ensures.none)
    c.cut_below.ensures.none

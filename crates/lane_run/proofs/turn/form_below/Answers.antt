use Rattle.lane_run.proofs.Words.{◌≡◌, ◌∙◌, ap, sym, arith, rules, ℤ, List, get_or, [], true, false, pos, ◌<ℤ◌, ◌≤ℤ◌, take, to_z, of_z, below_more, ints, get_or_default, w32, is_nonneg, combination, value_of, is_nonneg_is}
use Rattle.lane_rows.specs.Laned.{numbers_of}
use Rattle.lane_run.proofs.Parts.{below_zero, made_above, made_below}
use Rattle.lane_run.proofs.turn.form_below.Goals as goal

pub returns-then-value-lt0-clause-some : goal.returns-then-value-lt0-clause-some
returns-then-value-lt0-clause-some c =
    let t = c.args.rows.now in
    let item : c.form-item.result ≡ get_or c.args.forms.now c.loop-form.form-index [] = c.form-item.is ∙ get_or_default _ _ c.form-item.result [] c.loop-form-test.true in
    let whole : to_z w32 (of_z w32 c.value.result) ≡ c.value.result = search rules in
    let below : c.value.result <ℤ pos 0 = let e = c.if-value-lt0.true in omega (arith, ints, e, whole) in
    let sign : is_nonneg (value_of c.args.rows.now (get_or c.args.forms.now c.loop-form.form-index [])) ≡ false = sym (ap is_nonneg (c.value.ensures ∙ ap (value_of t) item)) ∙ below_zero c.value.result below in
    made_below t t.most c.scale.ensures.rows c.unknowns.ensures.rows _ _ c.read.result c.loop-form-test.true sign c.loop-form.invariant c.read.ensures.lanes c.read.ensures.unused
    (c.read.ensures.value ∙ ap (λ (f : List ℤ). combination t.unknowns 0 t.scale (take t.unknowns t.rows) (numbers_of t.unknowns f)) item)

pub loop-form-preserved : goal.loop-form-preserved
loop-form-preserved c =
    let t = c.args.rows.now in
    let A = c.args.forms.now in
    let item : c.form-item.result ≡ get_or c.args.forms.now c.loop-form.form-index [] = c.form-item.is ∙ get_or_default A _ c.form-item.result [] c.loop-form-test.true in
    let whole : to_z w32 (of_z w32 c.value.result) ≡ c.value.result = search rules in
    let high : pos 0 ≤ℤ c.value.result = let e = c.if-value-lt0.false in omega (arith, ints, e, whole) in
    let sign : is_nonneg (value_of c.args.rows.now (get_or c.args.forms.now c.loop-form.form-index [])) ≡ true = sym (ap is_nonneg (c.value.ensures ∙ ap (value_of t) item)) ∙ is_nonneg_is c.value.result high in
    below_more (λ j. is_nonneg (value_of t (get_or A j [])) ≡ true) _ c.loop-form.invariant sign

pub returns-clause-none : goal.returns-clause-none
returns-clause-none c =
    let t = c.args.rows.now in
    made_above t t.most c.scale.ensures.rows c.unknowns.ensures.rows c.args.forms.now (λ j lt. c.loop-form.invariant j (omega (arith, lt, c.loop-form-test.false)))

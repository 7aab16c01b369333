use Rattle.refutation_steps.proofs.Words.{rules, ◌≡◌, ◌-◌, arith, Fits, get_or, to_z, of_z, w128, All-get_or}
use Rattle.refutation_steps.proofs.Positives.{of_form, of_cut, in_cuts}
use Rattle.refutation_steps.proofs.trace.Trace.index_of.Goals as goal

pub returns-then-form-self-clause-value : goal.returns-then-form-self-clause-value
returns-then-form-self-clause-value c = rw (of_form c.args.self.now.rows c.self.inside.places.items c.self.inside.cuts.items c.self.inside.forms c.args.row c.len-places.result (search rules) (search rules) (omega (arith, c.if-row-places.false)) (omega (arith, c.if-form-self.true))) (search rules)

pub index-requires-2 : goal.index-requires-2
index-requires-2 c =
    let at = in_cuts c.args.self.now.rows c.self.inside.places.items c.self.inside.cuts.items c.self.inside.forms c.args.row c.len-places.result (search rules) (search rules) (omega (arith, c.if-row-places.false)) c.requires (omega (arith, c.if-form-self.false)) in
    omega (arith, at)

pub returns-clause-value : goal.returns-clause-value
returns-clause-value c = rw (of_cut c.args.self.now.rows c.self.inside.places.items c.self.inside.cuts.items c.self.inside.forms c.args.row c.len-places.result (search rules) (search rules) (omega (arith, c.if-row-places.false)) c.requires (omega (arith, c.if-form-self.false)) c.index-2.result.now (search rules)) (search rules)

pub returns-clause-fits : goal.returns-clause-fits
returns-clause-fits c =
    let now : to_z w128 (of_z w128 c.index-2.result.now) ≡ c.index-2.result.now = search rules in
    let read : c.index-2.result.now ≡ get_or c.self.inside.cuts.items (c.args.row - c.len-places.result - c.self.inside.forms) c.index-2.result.now = search rules in
    rw (now, read) (All-get_or Fits c.self.inside.cuts.items _ c.index-2.result.now (in_cuts c.args.self.now.rows c.self.inside.places.items c.self.inside.cuts.items c.self.inside.forms c.args.row c.len-places.result (search rules) (search rules) (omega (arith, c.if-row-places.false)) c.requires (omega (arith, c.if-form-self.false))) (search rules))

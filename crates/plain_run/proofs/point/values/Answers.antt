use Rattle.plain_run.proofs.Words.{rules, ◌∙◌, ap, ℕ, map, take, arith, Component, row_component, ◌≡◌, constant}
use Rattle.point_run.proofs.Values.{more_values}
use Rattle.plain_run.proofs.point.values.Goals as goal

pub loop-i-preserved : goal.loop-i-preserved
loop-i-preserved c = more_values c.args.rows.now.rows c.loop-i.i c.loop-i.values.items c.push.new.self.items _ (search rules) c.loop-i.invariant (search rules) c.in_ok-push.ensures.items

pub returns : goal.returns
returns c =
    let last : c.loop-i.i ≡ c.args.rows.now.unknowns = omega (arith, c.loop-i-test.false, c.loop-i.auto.i-end, c.unknowns-i-end.ensures) in
    c.from_values.ensures ∙ c.loop-i.invariant ∙ ap (λ (n : ℕ). map (λ (d : Component). constant d.form) (map row_component (take n c.args.rows.now.rows))) last

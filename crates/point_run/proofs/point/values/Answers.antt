use Rattle.point_run.proofs.Words.{◌≡◌, ◌∙◌, ap, ℕ, map, take, arith, constant, Component, row_component}
use Rattle.point_run.proofs.Values.{more_values}
use Rattle.std.proofs.Common.{to_z, of_z}
use Rattle.std.specs.Int.{w128}
use Rattle.std.proofs.lemmas.Int.{to_z-of_z}
use Rattle.point_run.proofs.point.values.Goals as goal

pub value_at-requires-clause-row : goal.value_at-requires-clause-row
value_at-requires-clause-row c = omega (arith, c.loop-i-test.true, c.unknowns-i-end.ensures, c.requires.rows)

pub loop-i-preserved : goal.loop-i-preserved
loop-i-preserved c =
    let held : to_z w128 (of_z w128 c.value_at.result) ≡ c.value_at.result = to_z-of_z w128 c.value_at.result (record { sfits = c.value_at.type_inv }) in
    more_values c.args.rows.now.rows c.loop-i.i c.loop-i.values.items c.push.new.self.items (to_z w128 (of_z w128 c.value_at.result)) (omega (arith, c.loop-i-test.true, c.unknowns-i-end.ensures, c.requires.rows)) c.loop-i.invariant
    (held ∙ c.value_at.ensures) c.in_ok-push.ensures.items

pub returns : goal.returns
returns c =
    let last : c.loop-i.i ≡ c.args.rows.now.unknowns = omega (arith, c.loop-i-test.false, c.loop-i.auto.i-end, c.unknowns-i-end.ensures) in
    c.loop-i.invariant ∙ ap (λ (n : ℕ). map (λ (d : Component). constant d.form) (map row_component (take n c.args.rows.now.rows))) last

use Rattle.form_run.proofs.Words.{rules, arith, ◌≡◌, ◌∙◌, ◌<◌, pos, length, ◌*ℤ◌, ◌-ℤ◌, unsigned_abs, entry, to_z, of_z}
use Rattle.std.specs.Int.{w64}
use Rattle.std.proofs.lemmas.List.{get_or_default}
use Rattle.form_run.proofs.Nearness.{near_more}
use Rattle.form_run.proofs.marks.distance.Goals.{then-most-here, else-most-here}
use Rattle.form_run.proofs.marks.distance.Goals as goal

pub loop-i-preserved : goal.loop-i-preserved
loop-i-preserved c =
    let inside : c.loop-i.i < length c.args.mark.now.vertex.items = search rules in
    let there : c.index.result.now ≡ entry c.args.mark.now.vertex.items c.loop-i.i = c.index.ensures ∙ get_or_default c.args.mark.now.vertex.items c.loop-i.i c.index.result.now (pos 0) inside in
    let is : unsigned_abs (entry c.args.vertex.now c.loop-i.i *ℤ c.args.mark.now.scale -ℤ entry c.args.mark.now.vertex.items c.loop-i.i *ℤ to_z w64 (of_z w64 c.args.scale)) ≡ c.difference-here.result = search (rules, there) in
    elim c.if-most-here.branch [
      | then-most-here w ↦ near_more _ c.loop-i.i c.loop-i.most c.difference-here.result c.if-most-here.most c.loop-i.invariant is (omega (arith, w.most-is, w.if-most-here.true)) (omega (arith, w.most-is))
      | else-most-here w ↦ near_more _ c.loop-i.i c.loop-i.most c.difference-here.result c.if-most-here.most c.loop-i.invariant is (omega (arith, w.most-is)) (omega (arith, w.most-is, w.if-most-here.false))
    ]

pub returns : goal.returns
returns c = λ k lt.
    let whole : to_z w64 (of_z w64 c.args.scale) ≡ c.args.scale = search rules in
    rw whole at (c.loop-i.invariant k (omega (arith, lt)))

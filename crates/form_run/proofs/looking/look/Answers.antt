use Rattle.form_run.proofs.Words.{rules, arith, ints, ◌≡◌, ◌<◌, [], length, get_or, pos, ◌≤ℤ◌, ◌<ℤ◌, to_z, of_z, valued}
use Rattle.std.specs.Int.{w64}
use Rattle.form_run.proofs.Seeing.{seen_more, seen_below}
use Rattle.form_run.proofs.looking.look.Goals.{then-value-least, else-value-least}
use Rattle.form_run.proofs.looking.look.Goals as goal

pub loop-i-preserved : goal.loop-i-preserved
loop-i-preserved c =
    let t = c.args.places.now in
    let b = c.args.basis.now in
    let e = c.if-value-lt0.false in
    let whole : to_z w64 (of_z w64 c.value-value.result) ≡ c.value-value.result = search rules in
    let above : pos 0 ≤ℤ c.value-value.result = omega (arith, ints, e, whole) in
    let is : c.value-value.result ≡ valued c.args.places.now c.args.basis.now c.at.result.now = search rules in
    let lt : c.loop-i.i < length c.args.forms.now.lists = search rules in
    let form : c.at.result.now ≡ get_or c.args.forms.now.lists c.loop-i.i [] = search rules in
    elim c.if-value-least.branch [
      | then-value-least w ↦
          let now : to_z w64 c.if-value-least.least-bits ≡ c.value-value.result = search rules in
          let yes = w.if-value-least.true in
          let less : (to_z w64 c.if-value-least.least-bits) ≤ℤ (to_z w64 c.loop-i.least-bits) = rw now (omega (arith, ints, yes, whole)) in
          let here : (to_z w64 c.if-value-least.least-bits) ≤ℤ c.value-value.result = rw now (omega (arith, ints)) in
          (rw now above, seen_more t b _ c.args.at c.loop-i.i _ _ _ c.at.result.now lt form is c.loop-i.invariant.1 less here)
      | else-value-least w ↦
          let now : c.if-value-least.least-bits ≡ c.loop-i.least-bits = search rules in
          let no = w.if-value-least.false in
          let here : (to_z w64 c.loop-i.least-bits) ≤ℤ c.value-value.result = omega (arith, ints, no, whole) in
          rw now (c.loop-i.invariant.0, seen_more t b _ c.args.at c.loop-i.i _ _ _ c.at.result.now lt form is c.loop-i.invariant.1 (omega (arith, ints)) here)
    ]

pub returns-then-value-lt0 : goal.returns-then-value-lt0
returns-then-value-lt0 c =
    let yes = c.if-value-lt0.true in
    let whole : to_z w64 (of_z w64 c.value-value.result) ≡ c.value-value.result = search rules in
    let under : c.value-value.result <ℤ pos 0 = omega (arith, ints, yes, whole) in
    let is : c.value-value.result ≡ valued c.args.places.now c.args.basis.now c.at.result.now = search rules in
    let form : c.at.result.now ≡ get_or c.args.forms.now.lists c.loop-i.i [] = search rules in
    seen_below c.args.places.now c.args.basis.now c.args.forms.now.lists c.args.at c.args.end c.loop-i.i (to_z w64 c.loop-i.least-bits) c.value-value.result c.at.result.now (omega arith) (omega arith) c.requires.end form is c.loop-i.invariant.0 c.loop-i.invariant.1 under

pub returns : goal.returns
returns c = (c.loop-i.invariant.0, λ k d from to. c.loop-i.invariant.1 k d from (omega (arith, to)))

use Rattle.affine_forms.proofs.Words.{arith, sym, ◌∙◌, ap, length}
use Rattle.std.proofs.Common.{to_z, of_z, length-append}
use Rattle.std.specs.Int.{w128}
use Rattle.pip_model.proofs.Forms.{length-combine}
use Rattle.affine_forms.proofs.form.Form.combine.Goals as goal

pub invariant_of-result : goal.invariant_of-result
invariant_of-result c =
    let same = ap length c.deref.ensures.value ∙ ap length c.r.view_is ∙ c.requires.widths ∙ sym (ap length c.deref-2.ensures.value ∙ ap length c.s.view_is) in
    let size = ap length c.in_ok-add_combined.ensures.value ∙ length-append c.in_ok-entries.entries.items _ in
    let long = length-combine (to_z w128 (of_z w128 c.args.a)) c.deref.result.now (to_z w128 (of_z w128 c.args.b)) c.deref-2.result.now same in
    record { some = omega (arith, size, long, ap length c.deref.ensures.value, c.r.invariant.some); fits = c.add_combined.ensures.fits }

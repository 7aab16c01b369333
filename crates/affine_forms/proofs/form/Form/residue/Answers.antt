use Rattle.affine_forms.proofs.Words.{arith, ◌∙◌, ap, length, length-map}
use Rattle.affine_forms.proofs.form.Form.residue.Goals as goal

pub invariant_of-result : goal.invariant_of-result
invariant_of-result c =
    let size = ap length c.in_ok-entries.ensures.value ∙ length-map c.deref.result.now _ in
    record { some = omega (arith, size, ap length c.deref.ensures.value, c.self.invariant.some); fits = c.in_ok-entries.ensures.fits }

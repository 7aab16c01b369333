use Rattle.affine_forms.proofs.Words.{◌≡◌, ◌+ℤ◌, drop, dot, value, all_fit, dot_listed, value_listed}
use Rattle.affine_forms.proofs.Values.{vector_from}
use Rattle.affine_forms.proofs.evaluation.evaluate.Given as goal

abbrev pub invariant-loop-i : goal.invariant-loop-i
invariant-loop-i l =
    (all_fit (dot_listed l.sum (drop l.i l.form) (vector_from l.i l.v)) ≡ all_fit (value_listed l.form l.v))
    × (l.sum +ℤ dot (drop l.i l.form) (vector_from l.i l.v) ≡ value l.form l.v)

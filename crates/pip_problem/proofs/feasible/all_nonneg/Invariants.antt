use Rattle.std.proofs.Common.{◌≡◌, drop}
use Rattle.affine_forms.specs.Listed.{all_fit}
use Rattle.affine_forms.specs.Problem.{all_nonneg, rows_listed}
use Rattle.pip_problem.proofs.feasible.all_nonneg.Given as goal

abbrev pub invariant-loop-form : goal.invariant-loop-form
invariant-loop-form l =
    (all_fit (rows_listed (drop l.form-index l.forms) l.u) ≡ all_fit (rows_listed l.forms l.u))
    × (all_nonneg (drop l.form-index l.forms) l.u ≡ all_nonneg l.forms l.u)

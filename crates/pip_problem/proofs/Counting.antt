-- What parts of a run count together.
use Rattle.std.proofs.Common.{refl, ◌∙◌, arith}
use Rattle.affine_forms.specs.Run.{Work}
use Rattle.pip_problem.specs.Counts.{HasCounted}

pub counted_none : (w : Work) → HasCounted w w
counted_none w = record { budget = refl; pivots = omega arith; cuts = omega arith; splits = omega arith }

pub counted_on : (before between now : Work) → HasCounted before between → HasCounted between now → HasCounted before now
counted_on before between now a b = record {
  budget = b.budget ∙ a.budget;
  pivots = omega (arith, a.pivots, b.pivots);
  cuts = omega (arith, a.cuts, b.cuts);
  splits = omega (arith, a.splits, b.splits);
}

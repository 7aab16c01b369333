use Rattle.new_parameters.proofs.Words.{arith, length-take}
use Rattle.new_parameters.proofs.Finding.{AreQuotients-take}
use Rattle.new_parameters.proofs.quotients.Quotients.back_to.Goals as goal

pub invariant_of-self : goal.invariant_of-self
invariant_of-self c = record {
  size = rw c.truncate.ensures.keys (omega (arith, length-take c.args.mark c.self.inside.set.keys, c.self.invariant.size));
  quotients = rw c.truncate.ensures.keys (AreQuotients-take c.args.mark c.self.inside.params c.self.inside.set.keys c.self.invariant.quotients);
}

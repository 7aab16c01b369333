use Rattle.new_parameters.proofs.Words.{rules, arith, ap, ◌≡◌, ◌-◌, Some, slice_get, Scope}
use Rattle.new_parameters.proofs.Finding.{quotient_got}
use Rattle.new_parameters.proofs.quotients.Quotients.at.Goals as goal

pub returns-clause-quotient : goal.returns-clause-quotient
returns-clause-quotient c =
    let params = ap (λ (s : Scope). s.params) c.self.view_is in
    let got : slice_get c.self.inside.set.keys (c.args.i - c.self.inside.params) ≡ Some c.in-Some.k.now = search rules in
    quotient_got c.self.inside.params c.args.i c.self.inside.set.keys c.in-Some.k.now (omega (arith, params, c.requires.low)) got c.self.invariant.quotients

use Rattle.context_points.proofs.Words.{rules, ◌≡◌, subst, ◌≤◌, ℤ, List, length, take, take_all, IsRemembered, known_tells}
use Rattle.context_points.proofs.context.Context.ask_known.Goals as goal

pub returns-clause-gives : goal.returns-clause-gives
returns-clause-gives c =
    let width : c.self.inside.width ≡ c.args.self.now.width = search rules in
    let forms : c.self.inside.forms.items ≡ c.args.self.now.forms = search rules in
    let number : length c.self.inside.forms.items ≤ c.self.inside.known = search rules in
    let all : take c.self.inside.known c.self.inside.forms.items ≡ c.self.inside.forms.items = take_all c.self.inside.known c.self.inside.forms.items number in
    let is : IsRemembered c.self.inside.width c.self.inside.forms.items c.self.inside.run
    = subst (λ (K : List (List ℤ)). IsRemembered c.self.inside.width K c.self.inside.run) all (c.self.invariant.0.remembered c.if-not-self.false) in
    rw (← width, ← forms) (known_tells c.self.inside.width c.self.inside.forms.items c.args.further.now c.self.inside.run c.args.work.now c.ask_shortly.new.work is c.ask_shortly.result c.ask_shortly.ensures.gives)

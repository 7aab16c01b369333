use Rattle.new_parameters.proofs.Words.{rules, ◌≡◌, Some, None, position, is_same_key}
use Rattle.new_parameters.proofs.Finding.{find_is, found_at}
use Rattle.new_parameters.proofs.quotients.Quotients.find.Goals as goal

pub returns-in-Some-clause-value : goal.returns-in-Some-clause-value
returns-in-Some-clause-value c =
    let here : position (is_same_key c.args.k.now) c.self.inside.set.keys ≡ Some c.in-Some.i = search rules in
    let found = find_is c.self.inside.params c.self.inside.set.keys c.args.k.now _ here in
    search (rules, found)

pub returns-in-Some-clause-free : goal.returns-in-Some-clause-free
returns-in-Some-clause-free c =
    let here : position (is_same_key c.args.k.now) c.self.inside.set.keys ≡ Some c.in-Some.i = search rules in
    found_at c.self.inside.params c.self.inside.set.keys c.args.k.now _ c.self.invariant.quotients
    (find_is c.self.inside.params c.self.inside.set.keys c.args.k.now _ here)

pub returns-in-None-clause-value : goal.returns-in-None-clause-value
returns-in-None-clause-value c =
    let none : position (is_same_key c.args.k.now) c.self.inside.set.keys ≡ None = search rules in
    let nowhere = find_is c.self.inside.params c.self.inside.set.keys c.args.k.now _ none in
    search (rules, nowhere)

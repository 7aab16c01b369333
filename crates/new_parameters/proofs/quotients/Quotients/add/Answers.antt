use Rattle.new_parameters.proofs.Words.{rules, ◌≡◌, ◌+◌, ◌∷◌, ◌++◌, [], length, arith, length-append, find_from}
use Rattle.std.specs.Prelude.{None}
use Rattle.new_parameters.proofs.Finding.{absent, AreQuotients-append}
use Rattle.new_parameters.proofs.quotients.Quotients.add.Goals as goal

pub invariant_of-self-2 : goal.invariant_of-self-2
invariant_of-self-2 c =
    let none : find_from c.self.inside.params c.self.inside.set.keys c.args.k ≡ None = search rules in
    let fresh = (absent c.self.inside.params c.self.inside.set.keys c.args.k none).0 in
    let keys : c.insert_full.new.self.keys ≡ c.self.inside.set.keys ++ c.args.k ∷ [] = search (rules, fresh) in
    let place : c.self.inside.params + length c.self.inside.set.keys ≡ c.args.self.now.params + length c.args.self.now.quotients = search rules in
    record {
      size = rw keys (omega (arith, length-append c.self.inside.set.keys (c.args.k ∷ []), place, c.requires.room));
      quotients = rw keys (AreQuotients-append c.self.inside.params c.self.inside.set.keys c.args.k c.self.invariant.quotients (rw place c.requires.quotient));
    }

pub returns-clause-place : goal.returns-clause-place
returns-clause-place c =
    let none : find_from c.self.inside.params c.self.inside.set.keys c.args.k ≡ None = search rules in
    let last = (absent c.self.inside.params c.self.inside.set.keys c.args.k none).1 in
    search (rules, last)

pub returns-clause-ok : goal.returns-clause-ok
returns-clause-ok c =
    let none : find_from c.self.inside.params c.self.inside.set.keys c.args.k ≡ None = search rules in
    let fresh = (absent c.self.inside.params c.self.inside.set.keys c.args.k none).0 in
    search (rules, fresh)

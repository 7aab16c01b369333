use Rattle.tableau.proofs.Words.{rules, subst, sym, rounded, IsRow, KeptRows, row_of}
use Rattle.tableau.proofs.Flat.{unsealed}
use Rattle.tableau.proofs.Pushed.{pushed}
use Rattle.tableau.proofs.flat_rows.FlatRows.push_rounded.Goals as goal

pub seal-requires-clause-unsealed : goal.seal-requires-clause-unsealed
seal-requires-clause-unsealed c =
    let s = c.self.inside in
    let given = subst (λ (t : KeptRows). IsRow t.unknowns t.width (row_of c.args.row.now)) (sym c.self.view_is) c.requires.row in
    unsealed s.unknowns s.width _ s.numbers.items c.append_rounded.new.numbers.items s.kept.items (rounded (row_of c.args.row.now) c.args.q) c.in_ok-short.ensures.appended.items (search rules) c.self.invariant.0
    (c.in_ok-short.ensures.made.row s.unknowns s.width given)
    c.in_ok-short.ensures.made.reduced
    c.in_ok-short.ensures.made.short

pub returns-clause-ok : goal.returns-clause-ok
returns-clause-ok c =
    let s = c.self.inside in
    let given = subst (λ (t : KeptRows). IsRow t.unknowns t.width (row_of c.args.row.now)) (sym c.self.view_is) c.requires.row in
    pushed c.args.self.now s.unknowns s.width s.most s.numbers.items c.append_rounded.new.numbers.items c.seal.new.numbers.items s.kept.items c.seal.new.kept.items c.len-first.result (rounded (row_of c.args.row.now) c.args.q) c.self.view_is c.in_ok-short.ensures.appended.items (search rules) (c.in_ok-short.ensures.made.row s.unknowns s.width given).coefs
    c.seal.ensures.rows

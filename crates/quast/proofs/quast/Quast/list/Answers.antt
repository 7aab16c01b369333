use Rattle.quast.proofs.Words.{◌≡◌, arith, refl, rules, width_of}
use Rattle.quast.proofs.Scopes.{leaf-quast}
use Rattle.quast.proofs.Lists.{first-width}
use Rattle.quast.proofs.quast.Quast.list.Goals as goal

pub invariant_of-result : goal.invariant_of-result
invariant_of-result c =
    let w : c.width-width.result ≡ width_of c.args.c.items = first-width c.args.c.items c.index.result.now _ (omega arith) (search rules) (search rules) in
    rw (w, c.new.ensures) (leaf-quast _ c.args.c.items (omega arith) (omega arith) c.requires.components, refl)

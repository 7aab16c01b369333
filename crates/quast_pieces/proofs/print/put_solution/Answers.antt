use Rattle.quast_pieces.proofs.Written.{pieces_written, tree_parted, at_ok}
use Rattle.quast_pieces.proofs.print.put_solution.Goals as goal

pub returns-in-Tree-clause-ok : goal.returns-in-Tree-clause-ok
returns-in-Tree-clause-ok c =
    pieces_written c.args.out.now.items c.put_pieces.new.out.items c.new.result.items c.put_pieces.result c.args.answer.now c.in-Tree.tree _ c.in-Tree.is c.new.ensures.items c.root.ensures.tree c.put_pieces.ensures.ok

pub returns-in-Tree-clause-parted : goal.returns-in-Tree-clause-parted
returns-in-Tree-clause-parted c = at_ok c.put_pieces.result _ (tree_parted c.args.answer.now c.in-Tree.tree c.in-Tree.is c.root.ensures.quast)

use Rattle.quast.proofs.Words.{arith, component_without}
use Rattle.std.proofs.lemmas.List.Edits.{map_over_more}
use Rattle.quast.proofs.component.Components.remove.Goals as goal

pub loop-c-preserved : goal.loop-c-preserved
loop-c-preserved c =
    rw (c.remove.ensures, ← c.c-item.is) (map_over_more (component_without c.args.i) c.deref_mut-c-items.result.now c.loop-c.c-items c.loop-c.c-index c.c-item.result (omega arith) c.loop-c.invariant c.c-item.is)

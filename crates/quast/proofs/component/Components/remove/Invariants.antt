use Rattle.quast.proofs.Words.{◌≡◌, ◌++◌, map, take, drop, component_without}
use Rattle.quast.proofs.component.Components.remove.Given as goal

abbrev pub invariant-loop-c : goal.invariant-loop-c
invariant-loop-c l = l.c-items ≡ map (component_without l.i) (take l.c-index l.initial.c-items) ++ drop l.c-index l.initial.c-items

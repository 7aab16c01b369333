use Rattle.quast_text.proofs.Words.{◌≡◌, ◌++◌, take, flat_map, spell_component}
use Rattle.quast_text.proofs.print.put_components.Given as goal

abbrev pub invariant-loop-component : goal.invariant-loop-component
invariant-loop-component l = l.out.items ≡ l.initial.out.items ++ flat_map spell_component (take l.component-index l.components)

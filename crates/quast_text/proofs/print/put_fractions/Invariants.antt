use Rattle.quast_text.proofs.Words.{◌≡◌, ◌++◌, take, flat_map, spell_term}
use Rattle.quast_text.proofs.print.put_fractions.Given as goal

abbrev pub invariant-loop-entry : goal.invariant-loop-entry
invariant-loop-entry l = l.out.items ≡ l.initial.out.items ++ flat_map (spell_term l.component.den) (take l.entry-index l.entry-items)

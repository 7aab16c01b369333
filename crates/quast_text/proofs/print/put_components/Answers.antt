use Rattle.quast_text.proofs.Words.{◌++◌, ◌∙◌, ap, append_assoc, arith, flat_map, take, spell_component, spell_components, written}
use Rattle.quast_text.proofs.Spellings.{components_flat}
use Rattle.quast_text.proofs.print.put_components.Goals as goal

pub returns-clause-ok : goal.returns-clause-ok
returns-clause-ok c =
    c.loop-component.invariant ∙ ap (λ t. c.args.out.now.items ++ t) (written spell_component _ c.loop-component.component-index (spell_components _) (omega arith) (components_flat _))

pub returns-clause-kept : goal.returns-clause-kept
returns-clause-kept c = record {
  rest = flat_map spell_component (take c.loop-component.component-index c.args.components.now);
  is = c.loop-component.invariant;
}

pub returns-in_err-put_component-clause-kept : goal.returns-in_err-put_component-clause-kept
returns-in_err-put_component-clause-kept c =
    let before = flat_map spell_component (take c.loop-component.component-index c.args.components.now) in
    let k = c.in_err-put_component.ensures.kept in
    record {
      rest = before ++ k.rest;
      is = k.is ∙ ap (λ t. t ++ k.rest) c.loop-component.invariant ∙ append_assoc c.args.out.now.items before k.rest;
    }

use Rattle.quast_text.proofs.Words.{◌≡◌, ◌++◌, ◌∙◌, ap, sym, append-nil, rules, get_or, pos, to_z, of_z, w128, append_assoc, arith, flat_map, take, spell_fractions, spell_term, written, spelt_more}
use Rattle.quast_text.proofs.Spellings.{fractions_flat}
use Rattle.quast_text.proofs.print.put_fractions.Goals as goal

pub loop-entry-init : goal.loop-entry-init
loop-entry-init c = sym (append-nil c.args.out.now.items)

pub loop-entry-preserved : goal.loop-entry-preserved
loop-entry-preserved c =
    let entries = c.as_slice-entry-items.result.now in
    let d = c.args.component.now.den in
    let i = c.loop-entry.entry-index in
    let here : to_z w128 (of_z w128 (get_or entries i (pos 0))) ≡ get_or entries i (pos 0) = search rules in
    let over : to_z w128 (of_z w128 c.den.result) ≡ d = search rules in
    let more = c.in_ok-put_term.ensures.ok
    ∙ ap (λ z. c.loop-entry.out.items ++ spell_term z (to_z w128 (of_z w128 (get_or entries i (pos 0))))) over
    ∙ ap (λ z. c.loop-entry.out.items ++ spell_term d z) here in
    spelt_more (spell_term d) entries i (pos 0) _ _ _ c.loop-entry-test.true c.loop-entry.invariant more

pub returns-clause-ok : goal.returns-clause-ok
returns-clause-ok c =
    let same = c.as_slice-entry-items.ensures.value ∙ c.form.ensures in
    let d = c.args.component.now.den in
    c.loop-entry.invariant ∙ ap (λ t. c.args.out.now.items ++ t) (written (spell_term d) _ c.loop-entry.entry-index (spell_fractions d _) (omega arith) (fractions_flat d _) ∙ ap (spell_fractions d) same)

pub returns-clause-kept : goal.returns-clause-kept
returns-clause-kept c = record {
  rest = flat_map (spell_term c.args.component.now.den) (take c.loop-entry.entry-index c.as_slice-entry-items.result.now);
  is = c.loop-entry.invariant;
}

pub returns-in_err-put_term-clause-kept : goal.returns-in_err-put_term-clause-kept
returns-in_err-put_term-clause-kept c =
    let before = flat_map (spell_term c.args.component.now.den) (take c.loop-entry.entry-index c.as_slice-entry-items.result.now) in
    let k = c.in_err-put_term.ensures.kept in
    record {
      rest = before ++ k.rest;
      is = k.is ∙ ap (λ t. t ++ k.rest) c.loop-entry.invariant ∙ append_assoc c.args.out.now.items before k.rest;
    }

use Rattle.std.proofs.Common.{rules, to_z, of_z, append-nil, sym, ◌≡◌, ◌++◌, ◌∙◌, ap, arith, get_or, pos}
use Rattle.std.specs.Int.{w128}
use Rattle.text_printing.proofs.Spellings.{written, numbers_flat, spelt_more, begins_more}
use Rattle.text_printing.specs.Printing.{spell_entry}
use Rattle.text_printing.proofs.parts.put_numbers.Goals as goal

pub loop-number-init : goal.loop-number-init
loop-number-init c = sym (append-nil c.args.out.now.items)

pub returns-in_err-put_entry-clause-kept : goal.returns-in_err-put_entry-clause-kept
returns-in_err-put_entry-clause-kept c = begins_more c.args.out.now.items c.loop-number.out.items c.put_entry.new.out.items _ c.loop-number.invariant c.put_entry.ensures.kept

pub loop-number-preserved : goal.loop-number-preserved
loop-number-preserved c =
    let here : to_z w128 (of_z w128 (get_or c.args.numbers.now c.loop-number.number-index (pos 0))) ≡ get_or c.args.numbers.now c.loop-number.number-index (pos 0) = search rules in
    spelt_more spell_entry c.args.numbers.now c.loop-number.number-index (pos 0) _ _ _ c.loop-number-test.true c.loop-number.invariant
    (c.in_ok-put_entry.ensures.ok ∙ ap (λ z. c.loop-number.out.items ++ spell_entry z) here)

pub returns-clause-ok : goal.returns-clause-ok
returns-clause-ok c = c.loop-number.invariant ∙ ap (λ t. c.args.out.now.items ++ t) (written spell_entry c.args.numbers.now c.loop-number.number-index _ (omega arith) (numbers_flat c.args.numbers.now))

pub returns-clause-kept : goal.returns-clause-kept
returns-clause-kept c = record { rest = _; is = c.loop-number.invariant }

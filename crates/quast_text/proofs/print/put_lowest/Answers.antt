use Rattle.quast_text.proofs.Words.{◌≡◌, ◌++◌, refl, rules, OnOk, signed_decimal, floor_div, gcd, spell_fraction, spell_denominator}
use Rattle.quast_text.proofs.Spellings.{begins_through, on_ok, fraction_written}
use Rattle.quast_text.proofs.Lowest.{divisor_positive}
use Rattle.quast_text.proofs.print.put_lowest.Goals as goal

pub floor_div-requires-clause-positive : goal.floor_div-requires-clause-positive
floor_div-requires-clause-positive c = divisor_positive _ c.args.c c.args.d (search rules) c.requires.positive

pub put_denominator-requires-clause-positive : goal.put_denominator-requires-clause-positive
put_denominator-requires-clause-positive c = divisor_positive _ c.args.c c.args.d (search rules) c.requires.positive

pub returns-clause-ok : goal.returns-clause-ok
returns-clause-ok c =
    let g = gcd c.args.c c.args.d in
    let old = c.args.out.now.items in
    let mid = c.put_number.new.out.items in
    let new = c.put_denominator.new.out.items in
    let first : mid ≡ old ++ signed_decimal (floor_div c.args.c (gcd c.args.c c.args.d)) = search rules in
    let second : OnOk c.put_denominator.result (c.put_denominator.new.out.items ≡ c.put_number.new.out.items ++ spell_denominator c.args.d (gcd c.args.c c.args.d)) = search rules in
    on_ok c.put_denominator.result (new ≡ mid ++ spell_denominator c.args.d g) (new ≡ old ++ spell_fraction c.args.c c.args.d) (fraction_written old mid new c.args.c c.args.d g refl first) second

pub returns-clause-kept : goal.returns-clause-kept
returns-clause-kept c = begins_through _ _ _ c.in_ok-put_number.ensures.kept c.put_denominator.ensures.kept

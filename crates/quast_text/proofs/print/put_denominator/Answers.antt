use Rattle.quast_text.proofs.Words.{◌≡◌, ◌++◌, rules, false, codes, OnOk, signed_decimal, floor_div, same_number, same_number_no}
use Rattle.quast_text.proofs.Spellings.{begins_through, put_behind}
use Rattle.quast_text.proofs.print.put_denominator.Goals as goal

pub returns-clause-ok : goal.returns-clause-ok
returns-clause-ok c =
    let other : same_number c.args.divisor c.args.d ≡ false = same_number_no c.args.divisor c.args.d (search rules) in
    let second : OnOk c.put_number.result (c.put_number.new.out.items ≡ c.put_mark.new.out.items ++ signed_decimal (floor_div c.args.d c.args.divisor)) = search rules in
    rw other (put_behind c.put_number.result c.args.out.now.items c.put_mark.new.out.items c.put_number.new.out.items (codes "/") (signed_decimal (floor_div c.args.d c.args.divisor)) c.in_ok-put_mark.ensures.ok second)

pub returns-clause-kept : goal.returns-clause-kept
returns-clause-kept c = begins_through _ _ _ c.in_ok-put_mark.ensures.kept c.put_number.ensures.kept

use Rattle.quast_text.proofs.Words.{◌≡◌, ◌++◌, rules, OnOk, spell_fraction}
use Rattle.quast_text.proofs.Spellings.{begins_through, put_behind}
use Rattle.quast_text.proofs.print.put_fraction.Goals as goal

pub returns-clause-kept : goal.returns-clause-kept
returns-clause-kept c = begins_through _ _ _ c.in_ok-put_mark.ensures.kept c.put_lowest.ensures.kept

pub returns-clause-ok : goal.returns-clause-ok
returns-clause-ok c =
    let second : OnOk c.put_lowest.result (c.put_lowest.new.out.items ≡ c.put_mark.new.out.items ++ spell_fraction c.args.c c.args.d) = search rules in
    put_behind _ _ _ _ _ _ c.in_ok-put_mark.ensures.ok second

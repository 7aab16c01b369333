use Rattle.short_row.proofs.Words.{rules, ◌≡◌, take, drop, to_z, of_z, w128, gcd, gcd_of, combine}
use Rattle.short_row.proofs.Finished.{gcd_finished}
use Rattle.short_row.proofs.wide.gcd_with_finished.Goals as goal

pub returns-clause-value : goal.returns-clause-value
returns-clause-value c =
    let whole : to_z w128 (of_z w128 c.gcd_with_entries.result)
    ≡ gcd c.gcd_with_made.result (gcd_of (combine c.args.by.of_row (drop c.args.made c.args.r.now) c.args.by.of_pivot (drop c.args.made c.args.s.now))) = search rules in
    gcd_finished c.args.start c.gcd_with_made.result (to_z w128 (of_z w128 c.gcd_with_entries.result)) (take c.args.made c.args.r.now)
    (combine c.args.by.of_row (drop c.args.made c.args.r.now) c.args.by.of_pivot (drop c.args.made c.args.s.now)) (search rules) whole

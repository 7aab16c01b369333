use Rattle.short_row.proofs.Words.{rules, ◌≡◌, take, drop, false, list_all, All-append, combine, floor_divided, is_short, IsShort}
use Rattle.short_row.proofs.Finished.{divided_parts, long_parts}
use Rattle.short_row.proofs.wide.divide_finished.Goals as goal

pub returns : goal.returns
returns c = record {
  value = λ all.
      let rest : c.divide_entries.new.r
      ≡ floor_divided c.args.d (combine c.args.by.of_row (drop c.args.made c.args.r.now) c.args.by.of_pivot (drop c.args.made c.args.s.now)) = search (rules, all) in
      divided_parts c.args.d (take c.args.made c.args.r.now) (combine c.args.by.of_row (drop c.args.made c.args.r.now) c.args.by.of_pivot (drop c.args.made c.args.s.now))
      c.divide_made.new.entries c.divide_entries.new.r (search rules) rest;
  short = λ all. All-append IsShort c.divide_made.new.entries c.divide_entries.new.r c.divide_made.ensures.short (search (rules, all));
  long = λ none.
      let long : list_all is_short
      (floor_divided c.args.d (combine c.args.by.of_row (drop c.args.made c.args.r.now) c.args.by.of_pivot (drop c.args.made c.args.s.now))) ≡ false = search (rules, none) in
      long_parts c.args.d (take c.args.made c.args.r.now) (combine c.args.by.of_row (drop c.args.made c.args.r.now) c.args.by.of_pivot (drop c.args.made c.args.s.now)) long;
}

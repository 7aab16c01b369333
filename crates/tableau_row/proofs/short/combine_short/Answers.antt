use Rattle.tableau_row.proofs.Words.{arith, rules, subst, IsTrue, All-set, Fits, IsShort, combined_step, combined_all, kept_at, kept_step}
use Rattle.tableau_row.proofs.short.combine_short.Goals as goal
use Rattle.tableau_row.proofs.short.combine_short.Goals.{then-changes, else-changes}

pub short_entry-entry-requires-clause-entries : goal.short_entry-entry-requires-clause-entries
short_entry-entry-requires-clause-entries c =
    let now = kept_at c.args.a c.args.b c.args.r.now c.args.s.now c.requires.lists.lengths c.loop-i.i (omega arith) IsShort c.loop-i.r (search rules) c.requires.lists.first in
    record { first = search (rules, now); second = search rules }

pub loop-i-preserved : goal.loop-i-preserved
loop-i-preserved c = elim c.if-changes.branch [
  | then-changes w ↦ record {
    value = let made = combined_step c.args.a c.args.b c.args.r.now c.args.s.now c.requires.lists.lengths c.loop-i.i (omega arith) c.loop-i.r w.short_entry-entry.result.0 (search rules) (search rules) in search (rules, made);
    fits = let made = All-set Fits c.loop-i.r c.loop-i.i w.short_entry-entry.result.0 w.short_entry-entry.ensures.fits c.loop-i.invariant.fits in search (rules, made);
    short = λ all.
        let now = subst IsTrue w.short-is all in
        let made = All-set IsShort c.loop-i.r c.loop-i.i w.short_entry-entry.result.0 (w.short_entry-entry.ensures.short (w.both-short.ensures.second now)) (c.loop-i.invariant.short (w.both-short.ensures.first now)) in
        search (rules, made);
  }
  | else-changes w ↦ record {
    value = let made = kept_step c.args.a c.args.b c.args.r.now c.args.s.now c.requires.lists.lengths c.loop-i.i (omega arith) c.loop-i.r (search rules) (search rules) (search rules) in search (rules, made);
    fits = search rules;
    short = search rules;
  }
]

pub returns : goal.returns
returns c =
    let whole = combined_all c.args.a c.args.b c.args.r.now c.args.s.now c.loop-i.i c.requires.lists.lengths (omega arith) in
    record { value = search (rules, whole); fits = search rules; short = search rules }

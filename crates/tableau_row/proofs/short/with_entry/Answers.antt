use Rattle.tableau_row.proofs.Words.{ap, sym, ◌∙◌, w128, to_z-of_z, is_short, short_bound}
use Rattle.tableau_row.proofs.short.with_entry.Goals as goal

pub returns-then-short-clause-so_far : goal.returns-then-short-clause-so_far
returns-then-short-clause-so_far c = λ _. c.if-short.true

pub returns-then-short-clause-entry : goal.returns-then-short-clause-entry
returns-then-short-clause-entry c = λ e.
    short_bound c.args.entry (ap is_short (sym (to_z-of_z w128 c.args.entry c.ranges.entry)) ∙ sym c.is_short.ensures ∙ e)

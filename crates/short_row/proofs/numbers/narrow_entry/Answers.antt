use Rattle.short_row.proofs.Words.{rules, subst, IsNarrowed}
use Rattle.short_row.proofs.numbers.narrow_entry.Goals as goal

pub returns : goal.returns
returns c = subst (λ z. IsNarrowed z c.narrow.result) (search rules) c.narrow.ensures

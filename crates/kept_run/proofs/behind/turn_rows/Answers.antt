use Rattle.kept_run.proofs.Words.{rules, ◌≡◌, ◌∙◌, subst, get_or, get_or_default_zero, row_at, Done, turned}
use Rattle.kept_run.proofs.Replaying.{turned-made}
use Rattle.kept_run.proofs.behind.turn_rows.Goals as goal

pub returns-clause-gives : goal.returns-clause-gives
returns-clause-gives c =
    let R = c.args.rows.now.rows in
    let p = row_at c.args.m.now.pivots.rows c.args.i in
    let column : c.index.result.now ≡ get_or c.args.m.now.columns.items c.args.i 0 = c.index.ensures ∙ get_or_default_zero c.args.m.now.columns.items c.args.i c.index.result.now c.requires.pivot in
    let now = c.eliminate.ensures.short (search rules) in
    let made = turned-made p c.index.result.now R c.args.work.now c.count_pivot.new.self c.eliminate.new.self c.args.rows.now c.in_ok-count_pivot.ensures.gives.agrees c.eliminate.ensures.listed now in
    record {
      agrees = subst (λ k. turned (row_at c.args.m.now.pivots.rows c.args.i) k c.args.rows.now.rows c.args.work.now ≡ Done c.eliminate.new.self.rows c.count_pivot.new.self) column made;
      counted = c.in_ok-count_pivot.ensures.gives.counted;
    }

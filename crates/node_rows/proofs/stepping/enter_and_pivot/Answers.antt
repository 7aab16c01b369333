use Rattle.node_rows.proofs.Words.{common_steps, arith, ◌≡◌, ◌∙◌, sym, ap, [], ◌++◌, map, TableauRows, read}
use Rattle.std.proofs.lemmas.List.{append-nil}
use Rattle.node_rows.proofs.stepping.enter_and_pivot.Goals as goal

pub returns-then-is_empty-clause-gives : goal.returns-then-is_empty-clause-gives
returns-then-is_empty-clause-gives c S N =
    let made = c.rows.inside.made in
    let none : c.rows.inside.forms ≡ [] = grind (arith, common_steps, c.if-is_empty.true, c.if-is_empty.ensures, c.is_empty.ensures) in
    let all : (t : TableauRows) → t.rows ++ map (read t c.rows.inside.basis) c.rows.inside.forms ≡ t.rows = (λ t. rw none (append-nil t.rows)) in
    let before : c.args.rows.now.rows ≡ made.rows = sym (ap (λ (t : TableauRows). t.rows) c.rows.view_is) ∙ all made in
    rw (all c.enter_and_pivot.new.rows, before) (c.enter_and_pivot.ensures.gives S N)

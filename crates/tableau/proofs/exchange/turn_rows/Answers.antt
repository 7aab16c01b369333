use Rattle.tableau.proofs.Words.{rules, refl, ◌<◌, length, eliminated_listed, lent_row, row_of, Kept}
use Rattle.tableau.proofs.Turning.{rows_turned, listed_more, listed_refused}
use Rattle.tableau.proofs.exchange.turn_rows.Goals as goal

pub loop-one-preserved : goal.loop-one-preserved
loop-one-preserved c =
    let v = c.args.pivot.now in
    let p = row_of v.p in
    let ks = c.args.kept.now in
    let i = c.loop-one.one-index in
    let more : i < length ks = c.loop-one-test.true in
    record {
      rows = rows_turned (lent_row v.lent) p v.c ks i _ c.args.next.now c.loop-one.next c.turn_kept.new.next more c.loop-one.invariant.rows (c.in_ok-turn_kept.ensures.ok);
      listed = listed_more (λ (k : Kept). eliminated_listed p v.c (lent_row v.lent k)) ks i _ more c.loop-one.invariant.listed (c.in_ok-turn_kept.ensures.listed);
    }

pub returns-in_err-turn_kept-clause-listed : goal.returns-in_err-turn_kept-clause-listed
returns-in_err-turn_kept-clause-listed c =
    let v = c.args.pivot.now in
    let refused = listed_refused (λ (k : Kept). eliminated_listed (row_of v.p) v.c (lent_row v.lent k)) c.args.kept.now c.loop-one.one-index _ c.loop-one-test.true (c.in_err-turn_kept.ensures.listed refl) in
    search (rules, refused)

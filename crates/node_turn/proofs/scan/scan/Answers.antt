use Rattle.node_turn.proofs.Words.{rules, arith, ◌≡◌, ◌∙◌, sym, IfSome, row_at, Plus, Minus, Unknown, AllPlus, Done, Refused, class, run_fault, counted_on}
use Rattle.std.proofs.lemmas.Result.{err_from_is_err_and}
use Rattle.sign_split.proofs.Keeping.{kept_on}
use Rattle.node_turn.proofs.Scanning.{scanned_on, scanned_minus, refused_from}
use Rattle.node_turn.proofs.Knowing.{known_on, at_start}
use Rattle.node_turn.proofs.scan.scan.Goals as goal

pub returns-in-Minus-clause-gives : goal.returns-in-Minus-clause-gives
returns-in-Minus-clause-gives c =
    let given : class c.args.context.now.forms c.args.context.now.width (row_at c.args.rows.now.rows c.loop-i.i).constant c.loop-i.work ≡ Done Minus c.class_of_row.new.work = search rules in
    record {
      agrees = sym c.loop-i.invariant.same ∙ scanned_minus c.args.context.now.forms c.args.context.now.width c.loop-i.i AllPlus c.args.rows.now.rows c.loop-i.work c.class_of_row.new.work (search rules) given;
      counted = counted_on c.args.work.now c.loop-i.work c.class_of_row.new.work c.loop-i.invariant.counted c.class_of_row.ensures.gives.counted;
    }

pub returns-in-Unknown-clause-gives : goal.returns-in-Unknown-clause-gives
returns-in-Unknown-clause-gives c =
    let given : class c.args.context.now.forms c.args.context.now.width (row_at c.args.rows.now.rows c.loop-i.i).constant c.loop-i.work ≡ Done (Unknown c.in-Unknown.condition) c.class_of_row.new.work = search rules in
    let step = scanned_on c.args.context.now.forms c.args.context.now.width c.loop-i.i AllPlus c.args.rows.now.rows c.loop-i.work c.class_of_row.new.work (search rules) (Unknown c.in-Unknown.condition) (λ e. cc) given in
    let behind = c.scan_behind.ensures.gives in
    let kept = kept_on c.args.context.now c.loop-i.context c.class_of_row.new.context c.loop-i.invariant.kept c.class_of_row.ensures.kept in
    record {
      agrees = rw (← c.loop-i.invariant.same, step, ← kept.forms, ← kept.width) behind.agrees;
      counted = counted_on c.args.work.now c.class_of_row.new.work c.scan_behind.new.work
          (counted_on c.args.work.now c.loop-i.work c.class_of_row.new.work c.loop-i.invariant.counted c.class_of_row.ensures.gives.counted) behind.counted;
    }

pub loop-i-preserved : goal.loop-i-preserved
loop-i-preserved c =
    let given : class c.args.context.now.forms c.args.context.now.width (row_at c.args.rows.now.rows c.loop-i.i).constant c.loop-i.work ≡ Done Plus c.class_of_row.new.work = search rules in
    let step = scanned_on c.args.context.now.forms c.args.context.now.width c.loop-i.i AllPlus c.args.rows.now.rows c.loop-i.work c.class_of_row.new.work (search rules) Plus (λ e. cc) given in
    record {
      kept = kept_on c.args.context.now c.loop-i.context c.class_of_row.new.context c.loop-i.invariant.kept c.class_of_row.ensures.kept;
      counted = counted_on c.args.work.now c.loop-i.work c.class_of_row.new.work c.loop-i.invariant.counted c.class_of_row.ensures.gives.counted;
      same = sym step ∙ c.loop-i.invariant.same;
      known = at_start c.args.context.now c.loop-i.context c.args.work.now.budget c.loop-i.work.budget c.class_of_row.new.known c.loop-i.invariant.kept c.loop-i.invariant.counted.budget c.class_of_row.ensures.known;
    }

pub class_of_row-requires-clause-known : goal.class_of_row-requires-clause-known
class_of_row-requires-clause-known c = known_on c.args.context.now c.loop-i.context c.args.work.now.budget c.loop-i.work.budget c.loop-i.known c.loop-i.invariant.kept c.loop-i.invariant.counted.budget c.loop-i.invariant.known

pub returns-in_err-class_of_row-clause-gives : goal.returns-in_err-class_of_row-clause-gives
returns-in_err-class_of_row-clause-gives c =
    let fault = run_fault c.in_err-class_of_row.field-0.0 in
    let given : IfSome fault (λ f. class c.args.context.now.forms c.args.context.now.width (row_at c.args.rows.now.rows c.loop-i.i).constant c.loop-i.work ≡ Refused f c.class_of_row.new.work) = rw (← c.loop-i.invariant.kept.forms, ← c.loop-i.invariant.kept.width) c.in_err-class_of_row.ensures.gives.agrees in
    let refused = refused_from c.args.context.now.forms c.args.context.now.width c.loop-i.i AllPlus c.args.rows.now.rows c.loop-i.work c.class_of_row.new.work (omega (arith, c.loop-i-test.true, c.rows-i-end.ensures)) fault given _ c.loop-i.invariant.same in
    let p = err_from_is_err_and c.from_residual.result c.from_residual.ensures.1 in
    record { agrees = rw (p.1, p.2) refused; counted = counted_on c.args.work.now c.loop-i.work c.class_of_row.new.work c.loop-i.invariant.counted c.class_of_row.ensures.gives.counted }

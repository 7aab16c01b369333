use Rattle.node_turn.proofs.Words.{rules, arith, ◌≡◌, ◌∙◌, sym, IfSome, common_steps, row_at, Minus, UnknownBy, Done, Refused, class, run_fault, counted_on, class_of}
use Rattle.sign_split.proofs.Keeping.{kept_on}
use Rattle.node_turn.proofs.Scanning.{scanned_behind, scanned_minus, refused_from, not_minus}
use Rattle.node_turn.proofs.Knowing.{known_on, at_start}
use Rattle.node_turn.proofs.scan.scan_behind.Goals as goal

pub returns-in_err-class-clause-gives : goal.returns-in_err-class-clause-gives
returns-in_err-class-clause-gives c =
    let given : IfSome (run_fault c.in_err-class.field-0.0) (λ f. class c.args.context.now.forms c.args.context.now.width (row_at c.args.rows.now.rows c.loop-i.i).constant c.loop-i.work ≡ Refused f c.class_of_row.new.work) = rw (← c.loop-i.invariant.kept.forms, ← c.loop-i.invariant.kept.width) c.in_err-class.ensures.gives.agrees in
    let fault = refused_from c.args.context.now.forms c.args.context.now.width c.loop-i.i (UnknownBy c.args.first.condition) c.args.rows.now.rows c.loop-i.work c.class_of_row.new.work (search rules) (run_fault c.in_err-class.field-0.0) given _ c.loop-i.invariant.same in
    record { agrees = grind (arith, common_steps, fault); counted = counted_on c.args.work.now c.loop-i.work c.class_of_row.new.work c.loop-i.invariant.counted c.class_of_row.ensures.gives.counted }

pub returns-in-Minus-clause-gives : goal.returns-in-Minus-clause-gives
returns-in-Minus-clause-gives c =
    let given : class c.args.context.now.forms c.args.context.now.width (row_at c.args.rows.now.rows c.loop-i.i).constant c.loop-i.work ≡ Done Minus c.class_of_row.new.work = search rules in
    record {
      agrees = sym c.loop-i.invariant.same ∙ scanned_minus c.args.context.now.forms c.args.context.now.width c.loop-i.i (UnknownBy c.args.first.condition) c.args.rows.now.rows c.loop-i.work c.class_of_row.new.work (search rules) given;
      counted = counted_on c.args.work.now c.loop-i.work c.class_of_row.new.work c.loop-i.invariant.counted c.class_of_row.ensures.gives.counted;
    }

pub loop-i-preserved : goal.loop-i-preserved
loop-i-preserved c =
    let given : class c.args.context.now.forms c.args.context.now.width (row_at c.args.rows.now.rows c.loop-i.i).constant c.loop-i.work ≡ Done (class_of c.in_ok-class.class) c.class_of_row.new.work = search rules in
    let step = scanned_behind c.args.context.now.forms c.args.context.now.width c.loop-i.i c.args.first.condition c.args.rows.now.rows c.loop-i.work c.class_of_row.new.work (search rules) (class_of c.in_ok-class.class) (not_minus c.in_ok-class.class c.in_default.not-Minus) given in
    record {
      kept = kept_on c.args.context.now c.class_of_row.new.context c.keep_room_of.new.context
          (kept_on c.args.context.now c.loop-i.context c.class_of_row.new.context c.loop-i.invariant.kept c.class_of_row.ensures.kept) c.keep_room_of.ensures;
      counted = counted_on c.args.work.now c.loop-i.work c.class_of_row.new.work c.loop-i.invariant.counted c.class_of_row.ensures.gives.counted;
      same = sym step ∙ c.loop-i.invariant.same;
      known = at_start c.args.context.now c.loop-i.context c.args.work.now.budget c.loop-i.work.budget c.class_of_row.new.known c.loop-i.invariant.kept c.loop-i.invariant.counted.budget c.class_of_row.ensures.known;
    }

pub class_of_row-requires-clause-known : goal.class_of_row-requires-clause-known
class_of_row-requires-clause-known c = known_on c.args.context.now c.loop-i.context c.args.work.now.budget c.loop-i.work.budget c.loop-i.known c.loop-i.invariant.kept c.loop-i.invariant.counted.budget c.loop-i.invariant.known

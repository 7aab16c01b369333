use Rattle.refuter.proofs.Words.{rules, arith, ◌≡◌, ◌∙◌, sym, ◌++◌, length-append, IsClosing, counted_none}
use Rattle.refuter.proofs.ClosingBehind.{refuted-behind}
use Rattle.refuter.proofs.closing.refute_with.Goals as goal

pub trace_behind-requires-clause-index : goal.trace_behind-requires-clause-index
trace_behind-requires-clause-index c =
    let E = c.args.m.now.run.end.rows in
    let is : IsClosing c.args.question.now.row.rows c.in-Some.r = search rules in
    omega (arith, c.rows.ensures, c.requires.traced.rows_traced, is.within, length-append E c.args.question.now.row.rows)

pub returns-in-Some : goal.returns-in-Some
returns-in-Some c =
    let is : IsClosing c.args.question.now.row.rows c.in-Some.r = search rules in
    let run = refuted-behind c.args.m.now.run.end.unknowns c.args.m.now.run.end.rows c.args.question.now.row.rows c.in-Some.r is (sym c.requires.stopped.at_end ∙ c.if-m.true) c.args.trace.now c.args.work.now in
    record { gives = record { agrees = rw (c.take_steps.ensures, c.in_ok-trace_behind.ensures, c.rows.ensures) run; counted = counted_none c.args.work.now } }

pub returns : goal.returns
returns c =
    let run : c.put_behind.new.run ≡ record c.args.m.now.run.end { rows = c.args.m.now.run.end.rows ++ c.args.question.now.row.rows } = c.in_ok-put_behind.ensures in
    let told = rw run at c.refute_on.ensures.gives in
    record { gives = told }

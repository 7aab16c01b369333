use Rattle.item_writing.proofs.Words.{err_from_is_err_and, bytes_read}
use Rattle.item_writing.proofs.Faults.{faults-items, faults-unread}
use Rattle.item_writing.proofs.Calls.{stops-whole, in_time-whole}
use Rattle.item_writing.proofs.Outputs.{output-read, output-unread}
use Rattle.item_writing.proofs.whole.write_over_input.Goals as goal

pub returns-clause-output : goal.returns-clause-output
returns-clause-output g c =
    output-read (g.C.Items.meaning c.args.command.now) c.requires.0 c.requires.1 _ (g.S.Source.left c.args.source.now) c.in_ok-input.input (g.K.Sink.written c.args.sink.now) _ c.write_items.result
    c.in_ok-input.ensures.bytes c.write_items.ensures.own (rw c.deref.ensures.value at c.write_items.ensures.output)

pub returns-clause-calls : goal.returns-clause-calls
returns-clause-calls g c = record {
  asked = stops-whole g.S.Source.calls g.S.Source.taken c.args.source.now _ (g.C.Items.meaning c.args.command.now) (bytes_read (g.C.Items.meaning c.args.command.now) (g.S.Source.left c.args.source.now)) c.requires.1;
  turns = c.in_ok-input.ensures.turns;
  taken = c.in_ok-input.ensures.taken;
}

pub returns-in_err-input-clause-calls : goal.returns-in_err-input-clause-calls
returns-in_err-input-clause-calls g c = record {
  asked = stops-whole g.S.Source.calls g.S.Source.taken c.args.source.now _ (g.C.Items.meaning c.args.command.now) (bytes_read (g.C.Items.meaning c.args.command.now) (g.S.Source.left c.args.source.now)) c.requires.1;
  turns = c.in_err-input.ensures.turns;
  taken = c.in_err-input.ensures.taken;
}

pub returns-clause-in_time : goal.returns-clause-in_time
returns-clause-in_time g c =
    in_time-whole g.S.Source.calls g.S.Source.taken c.args.source.now _ (g.K.Sink.written c.args.sink.now) _ c.write_items.result (g.C.Items.meaning c.args.command.now) (bytes_read (g.C.Items.meaning c.args.command.now) (g.S.Source.left c.args.source.now)) c.requires.1

pub returns-in_err-input-clause-in_time : goal.returns-in_err-input-clause-in_time
returns-in_err-input-clause-in_time g c =
    in_time-whole g.S.Source.calls g.S.Source.taken c.args.source.now _ (g.K.Sink.written c.args.sink.now) _ _ (g.C.Items.meaning c.args.command.now) (bytes_read (g.C.Items.meaning c.args.command.now) (g.S.Source.left c.args.source.now)) c.requires.1

pub returns-clause-faults : goal.returns-clause-faults
returns-clause-faults g c = faults-items _ _ _ _ c.write_items.result c.write_items.ensures.own (c.in_ok-input.ensures.faults.quiet (λ e. cc)) c.write_items.ensures.faults

pub returns-in_err-input-clause-output : goal.returns-in_err-input-clause-output
returns-in_err-input-clause-output g c =
    let p = err_from_is_err_and c.from_residual.result c.from_residual.ensures.1 in
    rw (p.1, p.2) (output-unread (g.C.Items.meaning c.args.command.now) c.requires.0 c.requires.1 _ (g.S.Source.left c.args.source.now) (g.K.Sink.written c.args.sink.now) _ c.in_err-input.ensures.own c.in_err-input.ensures.bytes)

pub returns-in_err-input-clause-faults : goal.returns-in_err-input-clause-faults
returns-in_err-input-clause-faults g c =
    let p = err_from_is_err_and c.from_residual.result c.from_residual.ensures.1 in
    rw (p.1, p.2) (faults-unread _ _ _ _ c.in_err-input.ensures.own c.in_err-input.ensures.faults)

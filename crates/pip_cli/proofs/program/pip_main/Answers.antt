use Rattle.pip_cli.proofs.Words.{inl, ◌∙◌, ◌-◌, map, string_bytes, Ok, Err, ending_of}
use Rattle.std.proofs.KnownBytes.{Appends-nil}
use Rattle.pip_cli.proofs.Asked.{command-asked}
use Rattle.pip_cli.proofs.Ends.{fault-by, line-gained, is-noted}
use Rattle.pip_cli.proofs.ByProblem.{told-ends, told-right, told-complete, told-in_time, is-read}
use Rattle.pip_cli.proofs.program.pip_main.Goals as goal

pub returns-in-Ok-clause-right : goal.returns-in-Ok-clause-right
returns-in-Ok-clause-right g c =
    told-right _ (command-asked (map string_bytes c.args.words.now.items)) (g.S.Source.left c.args.source.now) (g.S.Source.taken c.run.new.source - g.S.Source.taken c.args.source.now) (g.K.Sink.written c.args.sink.now) (g.K.Sink.written c.run.new.sink) (Ok c.in-Ok.field-0) c.number.result c.number.ensures c.in-Ok.ensures.output

pub returns-in-Ok-clause-output : goal.returns-in-Ok-clause-output
returns-in-Ok-clause-output g c =
    told-ends _ (command-asked (map string_bytes c.args.words.now.items)) (g.S.Source.left c.args.source.now) (g.S.Source.taken c.run.new.source - g.S.Source.taken c.args.source.now) (g.K.Sink.written c.args.sink.now) (g.K.Sink.written c.run.new.sink) (Ok c.in-Ok.field-0) c.number.result c.number.ensures c.in-Ok.ensures.output _ (inl (Appends-nil (g.N.Sink.written c.args.notes.now)))

pub returns-in-Ok-clause-complete : goal.returns-in-Ok-clause-complete
returns-in-Ok-clause-complete g c read_well written_well =
    told-complete _ (command-asked (map string_bytes c.args.words.now.items)) (g.S.Source.left c.args.source.now) (g.S.Source.taken c.run.new.source - g.S.Source.taken c.args.source.now) (g.K.Sink.written c.args.sink.now) (g.K.Sink.written c.run.new.sink) (Ok c.in-Ok.field-0) c.number.result c.number.ensures c.in-Ok.ensures.output (λ p. let zero = c.number.ensures in cc) (λ p. let zero = c.number.ensures in cc)

pub returns-in-Ok-clause-in_time : goal.returns-in-Ok-clause-in_time
returns-in-Ok-clause-in_time g c =
    told-in_time g.S.Source.calls g.S.Source.taken c.args.source.now c.run.new.source (g.K.Sink.written c.args.sink.now) (g.K.Sink.written c.run.new.sink) (Ok c.in-Ok.field-0) c.number.result c.number.ensures _ (g.S.Source.left c.args.source.now) c.in-Ok.ensures.in_time

pub returns-in-Err-clause-in_time : goal.returns-in-Err-clause-in_time
returns-in-Err-clause-in_time g c =
    told-in_time g.S.Source.calls g.S.Source.taken c.args.source.now c.run.new.source (g.K.Sink.written c.args.sink.now) (g.K.Sink.written c.run.new.sink) (Err c.in-Err.ending) c.number-in-Err.result (c.number-in-Err.ensures ∙ c.status.ensures) _ (g.S.Source.left c.args.source.now) c.in-Err.ensures.in_time

pub returns-in-Err-clause-right : goal.returns-in-Err-clause-right
returns-in-Err-clause-right g c =
    told-right _ (command-asked (map string_bytes c.args.words.now.items)) (g.S.Source.left c.args.source.now) (g.S.Source.taken c.run.new.source - g.S.Source.taken c.args.source.now) (g.K.Sink.written c.args.sink.now) (g.K.Sink.written c.run.new.sink) (Err c.in-Err.ending) c.number-in-Err.result (c.number-in-Err.ensures ∙ c.status.ensures) c.in-Err.ensures.output

pub returns-in-Err-clause-output : goal.returns-in-Err-clause-output
returns-in-Err-clause-output g c =
    told-ends _ (command-asked (map string_bytes c.args.words.now.items)) (g.S.Source.left c.args.source.now) (g.S.Source.taken c.run.new.source - g.S.Source.taken c.args.source.now) (g.K.Sink.written c.args.sink.now) (g.K.Sink.written c.run.new.sink) (Err c.in-Err.ending) c.number-in-Err.result (c.number-in-Err.ensures ∙ c.status.ensures) c.in-Err.ensures.output _
    (line-gained g.N.Sink.written g.N.Sink.faults _ _ (ending_of c.in-Err.ending) c.write_line.result c.write_line.ensures)

pub returns-in-Err-clause-notes : goal.returns-in-Err-clause-notes
returns-in-Err-clause-notes g c =
    is-noted _ (Err c.in-Err.ending) c.number-in-Err.result (c.number-in-Err.ensures ∙ c.status.ensures)
    (line-gained g.N.Sink.written g.N.Sink.faults _ _ (ending_of c.in-Err.ending) c.write_line.result c.write_line.ensures)

pub returns-in-Err-clause-complete : goal.returns-in-Err-clause-complete
returns-in-Err-clause-complete g c read_well written_well =
    let status = c.number-in-Err.ensures ∙ c.status.ensures in
    let by = fault-by (Err c.in-Err.ending) _ status in
    told-complete _ (command-asked (map string_bytes c.args.words.now.items)) (g.S.Source.left c.args.source.now) (g.S.Source.taken c.run.new.source - g.S.Source.taken c.args.source.now) (g.K.Sink.written c.args.sink.now) (g.K.Sink.written c.run.new.sink) (Err c.in-Err.ending) c.number-in-Err.result status c.in-Err.ensures.output
    (λ p. read_well (c.in-Err.ensures.faults.read_fault (by.0 p))) (λ p. written_well (c.in-Err.ensures.faults.write_fault (by.1 p)))

pub returns-in-Err-clause-read_to_end : goal.returns-in-Err-clause-read_to_end
returns-in-Err-clause-read_to_end g c whole after =
    c.in-Err.ensures.end whole (is-read _ (g.K.Sink.written c.args.sink.now) (g.K.Sink.written c.run.new.sink) _ (g.S.Source.left c.args.source.now) (Err c.in-Err.ending) c.number-in-Err.result (c.number-in-Err.ensures ∙ c.status.ensures) c.in-Err.ensures.refused whole c.in-Err.ensures.output after)

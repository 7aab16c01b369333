use Rattle.pip_cli.proofs.Words.{refl, [], Some, Trial}
use Rattle.item_writing.proofs.Faults.{faults-items}
use Rattle.item_writing.proofs.Calls.{stops-whole, in_time-whole}
use Rattle.item_writing.proofs.Turns.{asks-start}
use Rattle.item_writing.proofs.Outputs.{written}
use Rattle.pip_cli.proofs.output.write_output.Goals as goal

pub returns-in-Trial-clause-output : goal.returns-in-Trial-clause-output
returns-in-Trial-clause-output g c =
    rw c.in-Trial.is (written (Trial c.in-Trial.options.seed c.in-Trial.options.count) [] (g.K.Sink.written c.args.sink.now) _ c.write_items.result (λ taken. absurd taken) c.write_items.ensures.own c.write_items.ensures.output)

pub returns-else-options-clause-asked : goal.returns-else-options-clause-asked
returns-else-options-clause-asked g c =
    rw c.in-Solve.is c.write_problems.ensures.calls.asked

pub returns-else-options-clause-in_time : goal.returns-else-options-clause-in_time
returns-else-options-clause-in_time g c =
    rw c.in-Solve.is c.write_problems.ensures.in_time

pub returns-in-Trial-clause-in_time : goal.returns-in-Trial-clause-in_time
returns-in-Trial-clause-in_time g c =
    rw c.in-Trial.is (in_time-whole g.S.Source.calls g.S.Source.taken c.args.source.now c.args.source.now (g.K.Sink.written c.args.sink.now) _ c.write_items.result (Trial c.in-Trial.options.seed c.in-Trial.options.count) (Some []) refl)

pub returns-in-Trial-clause-asked : goal.returns-in-Trial-clause-asked
returns-in-Trial-clause-asked g c =
    rw c.in-Trial.is (stops-whole g.S.Source.calls g.S.Source.taken c.args.source.now c.args.source.now (Trial c.in-Trial.options.seed c.in-Trial.options.count) (Some []) refl)

pub returns-in-Trial-clause-turns : goal.returns-in-Trial-clause-turns
returns-in-Trial-clause-turns g c = asks-start g.S.Source.calls g.S.Source.taken c.args.source.now (g.S.Source.left c.args.source.now)

pub returns-in-Trial-clause-faults : goal.returns-in-Trial-clause-faults
returns-in-Trial-clause-faults g c = faults-items _ _ _ _ c.write_items.result c.write_items.ensures.own refl c.write_items.ensures.faults

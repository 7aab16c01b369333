use Rattle.pip_cli.proofs.Words.{memory_ending}
use Rattle.pip_cli.proofs.Ends.{line-gained}
use Rattle.pip_cli.proofs.program.refuse_words.Goals as goal

pub returns-clause-notes : goal.returns-clause-notes
returns-clause-notes g c = line-gained g.N.Sink.written g.N.Sink.faults _ _ memory_ending c.write_line.result c.write_line.ensures

use Rattle.std.proofs.Common.{append_assoc}
use Rattle.item_writing.proofs.Lines.{line_written}
use Rattle.item_writing.proofs.told.write_line.Goals as goal

pub returns-in-Place : goal.returns-in-Place
returns-in-Place g c =
    line_written g.N.Sink.written g.N.Sink.faults _ _ _ c.args.told.now _ _ c.in-Place.is c.write_parts-in-Place.ensures (simp append_assoc)

pub returns-in-Lengths : goal.returns-in-Lengths
returns-in-Lengths g c =
    line_written g.N.Sink.written g.N.Sink.faults _ _ _ c.args.told.now _ _ c.in-Lengths.is c.write_parts-in-Lengths.ensures (simp append_assoc)

use Rattle.std.proofs.Common.{sym, subst, arith}
use Rattle.pip_outside.specs.Bytes.{WritesBytes}
use Rattle.pip_outside.proofs.Parts.{writes-then}
use Rattle.item_writing.proofs.Lines.{parts_split}
use Rattle.item_writing.proofs.told.+write_parts.Goals as goal

pub returns-in_ok-write_part-in-len1-up : goal.returns-in_ok-write_part-in-len1-up
returns-in_ok-write_part-in-len1-up g t c =
    let ps = c.args.parts.now in
    subst (WritesBytes g.N.Sink.written g.N.Sink.faults c.args.notes.now c.write_parts.new.notes c.write_parts.result) (sym (parts_split ps _ (omega (arith, c.in-len1-up.len_at_least))))
    (writes-then g.N.Sink.written g.N.Sink.faults c.args.notes.now c.write_part.new.notes c.write_parts.new.notes _ _ c.write_parts.result tt c.in_ok-write_part-in-len1-up.ensures c.write_parts.ensures)

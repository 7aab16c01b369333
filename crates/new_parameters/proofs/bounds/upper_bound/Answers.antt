use Rattle.new_parameters.proofs.Words.{rules}
use Rattle.new_parameters.proofs.RoundingLaws.{overflow_never}
use Rattle.new_parameters.proofs.bounds.upper_bound.Goals as goal

pub unreachable-requires : goal.unreachable-requires
unreachable-requires c =
    overflow_never c.args.width c.args.place c.args.k.now c.as_slice.result.now _ c.in-Err-Overflow.field-0 c.in-Err-Overflow.field-0-is
    (search rules) (search rules) c.requires.quotient (search rules) c.requires.place c.requires.free (search rules) c.in-Err-Overflow.ensures.listed

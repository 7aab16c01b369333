use Rattle.quast_text.proofs.Words.{rules}
use Rattle.quast_text.proofs.Lowest.{from_one, divisor_positive, lowest_positive}
use Rattle.quast_text.proofs.fraction.lowest_terms.Goals as goal

pub floor_div-requires-clause-positive : goal.floor_div-requires-clause-positive
floor_div-requires-clause-positive c = divisor_positive _ c.args.n c.args.d (search rules) (from_one c.args.d c.requires.low (search rules))

pub floor_div-requires-2-clause-positive : goal.floor_div-requires-2-clause-positive
floor_div-requires-2-clause-positive c = divisor_positive _ c.args.n c.args.d (search rules) (from_one c.args.d c.requires.low (search rules))

pub new-fraction-requires : goal.new-fraction-requires
new-fraction-requires c = record {
  positive = lowest_positive _ c.args.n c.args.d (search rules) (from_one c.args.d c.requires.low (search rules));
  numerator = search rules;
  denominator = search rules;
}

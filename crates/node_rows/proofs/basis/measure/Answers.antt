use Rattle.node_rows.proofs.Words.{rules}
use Rattle.node_rows.proofs.basis.measure.Goals as goal

pub push_columns-requires-clause-room : goal.push_columns-requires-clause-room
push_columns-requires-clause-room c = c.in_ok-row_numbers.ensures

pub returns-then-are_short-clause-basis : goal.returns-then-are_short-clause-basis
returns-then-are_short-clause-basis c = record {
  size = c.requires;
  rows = search rules;
  positive = search rules;
  columns = search rules;
  common = search rules;
  within = search rules;
  small = c.if-most-lt9223372036854775808.true;
}

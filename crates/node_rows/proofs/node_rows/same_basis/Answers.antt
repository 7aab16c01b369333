use Rattle.node_rows.proofs.Words.{rules}
use Rattle.node_rows.proofs.ReadRows.{read_again}
use Rattle.node_rows.proofs.node_rows.same_basis.Goals as goal

pub returns-clause-read : goal.returns-clause-read
returns-clause-read c = λ t f h. read_again t f _ _ (search rules) (search rules) (search rules) h

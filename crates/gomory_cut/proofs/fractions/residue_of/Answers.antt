use Rattle.gomory_cut.proofs.Words.{rules}
use Rattle.gomory_cut.proofs.Residues.{residue_entries}
use Rattle.gomory_cut.proofs.fractions.residue_of.Goals as goal

pub returns-clause-entries : goal.returns-clause-entries
returns-clause-entries c = residue_entries c.row-row.result.den _ c.row-row.result.constant.now _ (search rules) (search rules) (search rules)

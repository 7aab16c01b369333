use Rattle.quast_text.proofs.Words.{◌+◌, ◌*◌}
use Rattle.quast_text.proofs.tree.+tree.Given as goal

abbrev pub decreases-read_tree : goal.decreases-read_tree
decreases-read_tree l = 2 * l.room

abbrev pub decreases-read_choice : goal.decreases-read_choice
decreases-read_choice l = 2 * l.room + 1

abbrev pub decreases-read_new_parameter : goal.decreases-read_new_parameter
decreases-read_new_parameter l = 2 * l.room + 1

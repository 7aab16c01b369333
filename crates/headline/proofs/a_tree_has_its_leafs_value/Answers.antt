use Rattle.pip_model.proofs.Values.{tree_value-leaf}
use Rattle.headline.proofs.a_tree_has_its_leafs_value.Goals as goal

pub returns : goal.returns
returns c = tree_value-leaf

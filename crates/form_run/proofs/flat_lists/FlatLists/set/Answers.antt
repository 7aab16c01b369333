use Rattle.form_run.proofs.Words.{arith, ◌∙◌}
use Rattle.form_run.proofs.Lists.{count_is, length_lists}
use Rattle.form_run.proofs.flat_lists.FlatLists.set.Goals as goal

pub write_list-requires-clause-list : goal.write_list-requires-clause-list
write_list-requires-clause-list c = omega (arith, count_is c.self.inside.size c.self.inside.count c.self.inside.numbers.items c.args.self.now c.self.view_is, c.requires.list)

pub returns-clause-lists : goal.returns-clause-lists
returns-clause-lists c = length_lists c.self.inside.size c.self.inside.count _ ∙ count_is c.self.inside.size c.self.inside.count c.self.inside.numbers.items c.args.self.now c.self.view_is

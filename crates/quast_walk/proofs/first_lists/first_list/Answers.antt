use Rattle.quast_walk.proofs.Words.{◌∙◌, ◌+◌}
use Rattle.quast_walk.proofs.Lists.{first_same, first_scoped}
use Rattle.quast_walk.proofs.first_lists.first_list.Goals as goal

pub returns : goal.returns
returns c =
    let own = c.args.reading.now.parameters + c.args.reading.now.between in
    let scoped = first_scoped c.args.places own c.args.components.now c.requires.few c.requires.scoped in
    c.in_ok-wide.ensures.value c.args.places scoped ∙ first_same c.args.places own c.args.components.now c.requires.few c.requires.scoped

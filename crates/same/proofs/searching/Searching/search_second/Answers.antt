use Rattle.same.proofs.searching.Searching.search_second.Goals as goal

pub returns-in-Tree-clause-gives : goal.returns-in-Tree-clause-gives
returns-in-Tree-clause-gives c =
    rw c.in-Tree.is (rw (c.below-below.ensures.value, c.mark.ensures.width, c.root.ensures.tree) at c.walk.ensures.gives)

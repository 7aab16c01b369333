use Rattle.solve_certified.proofs.Words.{◌≡◌, [], made_leaf, case_of, AreFirst, IsBefore}
use Rattle.solve_certified.proofs.MadeGoals.{from_here}
use Rattle.solve_certified.proofs.leaf.LeafMaking.refute_each.Given as goal

abbrev pub invariant-loop-r : goal.invariant-loop-r
invariant-loop-r l =
    let P = l.self.leaf.problem.now in
    let L = case_of l.self.leaf in
    let ks = l.self.scope.quotients.now in
    record {
      before : IsBefore l.self l.r l.known;
      first : AreFirst l.refuter l.known.forms;
      shared : l.proofs.shared ≡ [];
      made : made_leaf P L ks L.list l.fn.work ≡ from_here P L ks l.r l.proofs.refutations l.work;
    }

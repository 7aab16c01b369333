use Rattle.leaf_check.proofs.Words.{◌≡◌, true, false, arith, option_copied, common_steps, case_of, has_shape}
use Rattle.leaf_check.proofs.Owned.{without_shape, shape_count}
use Rattle.leaf_check.proofs.leaf.Leaf.check.Goals as goal

pub returns-then-not-has_shape : goal.returns-then-not-has_shape
returns-then-not-has_shape c =
    let no : has_shape c.args.self.now.problem.now (option_copied c.args.self.now.list) c.args.proofs.now ≡ false = grind (arith, common_steps) in
    without_shape c.args.self.now.problem.now true c.args.self.now.number (case_of c.args.self.now) c.args.proofs.now no

pub check_proofs-requires-clause-count : goal.check_proofs-requires-clause-count
check_proofs-requires-clause-count c =
    let yes : has_shape c.args.self.now.problem.now (option_copied c.args.self.now.list) c.args.proofs.now ≡ true = grind (arith, common_steps) in
    shape_count c.args.self.now.problem.now true c.args.self.now.number (case_of c.args.self.now) c.args.proofs.now yes

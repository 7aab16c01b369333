use Rattle.leaf_certificate.proofs.Words.{◌≡◌, ◌∙◌, ◌++◌, ◌∷◌, [], rules, err_from_is_err_and, fault_of}
use Rattle.leaf_certificate.proofs.Sequences.{reaches_next, reaches_end, reaches_refused}
use Rattle.leaf_certificate.proofs.read_leaf.read_leaves.Goals as goal

pub returns-in_err-leaf-clause-reads : goal.returns-in_err-leaf-clause-reads
returns-in_err-leaf-clause-reads c =
    let p = err_from_is_err_and c.from_residual.result c.from_residual.ensures.1 in
    let shares : c.shares-shares.result ≡ c.args.start.shares = search rules in
    rw (p.1, p.2) (reaches_refused c.requires.some c.loop-after.invariant.reaches (fault_of c.in_err-leaf.field-0.0) (search rules) (rw shares at c.in_err-leaf.ensures.reads))

pub loop-after-preserved : goal.loop-after-preserved
loop-after-preserved c =
    let items : c.push.new.self.leaves ≡ c.loop-after.read.leaves ++ c.in_ok-leaf.leaf ∷ [] = search rules in
    rw items (record {
      reaches = reaches_next c.requires.some c.loop-after.invariant.reaches (search rules) (search rules) (search rules) (search rules);
      shares = search rules;
      vector = search rules;
    })

pub returns-in-Some-clause-reads : goal.returns-in-Some-clause-reads
returns-in-Some-clause-reads c = (reaches_end c.requires.some c.loop-after.invariant.reaches (search rules) ∙ search rules, search rules, search rules)

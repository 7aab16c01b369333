use Rattle.leaf_certificate.proofs.Words.{◌≡◌, ◌∙◌, ◌++◌, ◌∷◌, [], rules, err_from_is_err_and, fault_of}
use Rattle.leaf_certificate.proofs.Sequences.{reaches_next, reaches_end, reaches_refused}
use Rattle.leaf_certificate.proofs.read_leaf.read_refutations.Goals as goal

pub returns-in_err-refutation-clause-reads : goal.returns-in_err-refutation-clause-reads
returns-in_err-refutation-clause-reads c =
    let p = err_from_is_err_and c.from_residual.result c.from_residual.ensures.1 in
    rw (p.1, p.2) (reaches_refused c.requires.some c.loop-after.invariant.reaches (fault_of c.in_err-refutation.field-0.0) (search rules) c.in_err-refutation.ensures)

pub loop-after-preserved : goal.loop-after-preserved
loop-after-preserved c =
    let items : c.push.new.self.refutations ≡ c.loop-after.read.refutations ++ c.in_ok-refutation.refutation ∷ [] = search rules in
    rw items (record {
      reaches = reaches_next c.requires.some c.loop-after.invariant.reaches (search rules) (search rules) (search rules) (search rules);
      shared = search rules;
    })

pub returns-in-Some-clause-reads : goal.returns-in-Some-clause-reads
returns-in-Some-clause-reads c = (reaches_end c.requires.some c.loop-after.invariant.reaches (search rules) ∙ search rules, search rules, search rules)

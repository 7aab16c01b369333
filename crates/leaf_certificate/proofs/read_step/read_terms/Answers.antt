use Rattle.leaf_certificate.proofs.Words.{◌≡◌, ◌∙◌, ◌++◌, ◌∷◌, [], rules, err_from_is_err_and, fault_of}
use Rattle.leaf_certificate.proofs.Sequences.{reaches_next, reaches_end, reaches_refused}
use Rattle.leaf_certificate.proofs.read_step.read_terms.Goals as goal

pub returns-in_err-term : goal.returns-in_err-term
returns-in_err-term c =
    let p = err_from_is_err_and c.from_residual.result c.from_residual.ensures.1 in
    rw (p.1, p.2) (reaches_refused c.requires.some c.loop-after.invariant (fault_of c.in_err-term.field-0.0) (search rules) c.in_err-term.ensures.reads)

pub loop-after-preserved : goal.loop-after-preserved
loop-after-preserved c =
    let items : c.push.new.self ≡ c.loop-after.read ++ c.in_ok-term.term ∷ [] = search rules in
    rw items (reaches_next c.requires.some c.loop-after.invariant (search rules) (search rules) (search rules) (search rules))

pub returns-in-Some : goal.returns-in-Some
returns-in-Some c = (reaches_end c.requires.some c.loop-after.invariant (search rules) ∙ search rules, search rules, search rules)

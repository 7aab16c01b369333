use Rattle.leaf_certificate.proofs.Words.{◌≡◌, ◌∙◌, ◌++◌, ◌∷◌, [], rules, err_from_is_err_and, Fits, fault_of}
use Rattle.std.proofs.lemmas.List.Elements.{All-push}
use Rattle.leaf_certificate.proofs.Sequences.{reaches_next, reaches_end, reaches_refused}
use Rattle.leaf_certificate.proofs.read.read_numbers.Goals as goal

pub returns-in_err-number-clause-reads : goal.returns-in_err-number-clause-reads
returns-in_err-number-clause-reads c =
    let p = err_from_is_err_and c.from_residual.result c.from_residual.ensures.1 in
    rw (p.1, p.2) (reaches_refused c.requires.some c.loop-read.invariant.reaches (fault_of c.in_err-number.field-0.0) (search rules) c.in_err-number.ensures.reads)

pub loop-read-preserved : goal.loop-read-preserved
loop-read-preserved c =
    let items : c.push.new.self.items ≡ c.loop-read.read.items ++ c.in_ok-number.number ∷ [] = search rules in
    rw items (record {
      reaches = reaches_next c.requires.some c.loop-read.invariant.reaches (search rules) (search rules) (search rules) (search rules);
      fits = All-push Fits c.loop-read.read.items c.in_ok-number.number c.loop-read.invariant.fits (search rules);
    })

pub returns-clause-reads : goal.returns-clause-reads
returns-clause-reads c = (reaches_end c.requires.some c.loop-read.invariant.reaches (search rules) ∙ search rules, search rules, search rules)

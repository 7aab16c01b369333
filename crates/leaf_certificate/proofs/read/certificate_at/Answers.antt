use Rattle.leaf_certificate.proofs.Words.{◌≡◌, rules, Ok, codes, err_from_is_err_and, LeftParen, expect, expect_word, version, vector, fault_of, leaves_to_end}
use Rattle.certificate_parts.specs.Vectors.{numbers_of}
use Rattle.leaf_certificate.proofs.Certificates.{vector_refused, certificate_made}
use Rattle.leaf_certificate.proofs.read.certificate_at.Goals as goal

pub returns-in_err-vector : goal.returns-in_err-vector
returns-in_err-vector c =
    let p = err_from_is_err_and c.from_residual-in_err-vector.result c.from_residual-in_err-vector.ensures.1 in
    let opened : expect c.args.bytes.now LeftParen c.args.place ≡ Ok c.in_ok-at.at = search rules in
    let named : expect_word c.args.bytes.now (codes "certificate") c.in_ok-at.at ≡ Ok c.in_ok-at-2.at = c.in_ok-at-2.ensures.0 in
    let formed : version c.args.bytes.now c.in_ok-at-2.at ≡ Ok (c.in_ok-shares.shares, c.in_ok-shares.at) = search rules in
    rw (p.1, p.2) (vector_refused c.args.bytes.now c.args.place c.in_ok-at.at c.in_ok-at-2.at c.in_ok-shares.at c.in_ok-shares.shares opened named formed
    (fault_of c.in_err-vector.field-0.0) c.in_err-vector.ensures.reads)

pub returns : goal.returns
returns c =
    let opened : expect c.args.bytes.now LeftParen c.args.place ≡ Ok c.in_ok-at.at = search rules in
    let named : expect_word c.args.bytes.now (codes "certificate") c.in_ok-at.at ≡ Ok c.in_ok-at-2.at = c.in_ok-at-2.ensures.0 in
    let formed : version c.args.bytes.now c.in_ok-at-2.at ≡ Ok (c.in_ok-shares.shares, c.in_ok-shares.at) = search rules in
    let numbers : vector c.args.bytes.now c.in_ok-shares.at ≡ Ok (numbers_of c.in_ok-vector.vector, c.in_ok-vector.at) = search rules in
    let leaves : leaves_to_end c.args.bytes.now c.in_ok-shares.shares c.in_ok-vector.at ≡ Ok (c.in_ok-certificate.certificate.leaves, c.in_ok-certificate.after) = search rules in (
      certificate_made c.args.bytes.now c.args.place c.in_ok-at.at c.in_ok-at-2.at c.in_ok-shares.at c.in_ok-shares.shares opened named formed
          (numbers_of c.in_ok-vector.vector) c.in_ok-vector.at c.in_ok-certificate.after c.in_ok-certificate.certificate numbers leaves (search rules) (search rules),
      search rules,
      search rules,
    )

use Rattle.certificate_check.proofs.Words.{◌≡◌, take}
use Rattle.certificate_check.proofs.sharing.copied_certificate.Given as goal

abbrev pub invariant-loop-proofs : goal.invariant-loop-proofs
invariant-loop-proofs l = l.made ≡ record l.certificate { leaves = take l.proofs-index l.leaves }

use Rattle.certificate_check.proofs.Words.{◌≡◌, take}
use Rattle.certificate_check.proofs.sharing.copied_proofs.Given as goal

abbrev pub invariant-loop-steps : goal.invariant-loop-steps
invariant-loop-steps l = l.made ≡ record { shared = l.proofs.shared; refutations = take l.steps-index l.refutations }

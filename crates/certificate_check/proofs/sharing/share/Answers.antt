use Rattle.certificate_check.proofs.Words.{◌≡◌, sym, ◌∙◌, false, true, subst, rules, IfOk-weaker, Accepted, share, shared_leaves, answer_of}
use Rattle.check_laws.proofs.ShareAccepted.{share-accepted, share-made}
use Rattle.certificate_check.proofs.sharing.share.Goals as goal

pub returns-else-shares-clause-accepted : goal.returns-else-shares-clause-accepted
returns-else-shares-clause-accepted c =
    let P = c.args.problem.now in
    let a = answer_of c.args.answer.now in
    let cert = c.args.certificate.now in
    let off : cert.shares ≡ false = search rules in
    let kept : Accepted P a (share P a cert) = share-accepted P a cert (search rules) (search rules) c.requires in
    IfOk-weaker c.shared_certificate.result (λ d. d ≡ record { shares = true; vector = cert.vector; leaves = shared_leaves P a cert.leaves }) (Accepted P a) (λ d e. subst (Accepted P a) (share-made P a cert off ∙ sym e) kept) c.shared_certificate.ensures

use Rattle.certificate_check.proofs.Words.{◌≡◌, ◌∙◌, ap, ap₂, ◌+◌, get_or, ℤ, ℕ, List, [], length, subst, rules, true, Tree, Answer, Solved, Certificate, Accepted, answer_of}
use Rattle.certificate_check.proofs.Shares.{accepted_counted, void_made, tree_made}
use Rattle.certificate_check.proofs.sharing.shared_certificate.Goals.{in-Void+in_ok-share_proofs-in-Void+in_ok-push-in-Void, in-Tree+in_ok-share_node-in-Tree}
use Rattle.certificate_check.proofs.sharing.shared_certificate.Goals as goal

pub share_node-requires-clause-counted : goal.share_node-requires-clause-counted
share_node-requires-clause-counted c =
    let P = c.args.problem.now in
    let cert = c.args.certificate.now in
    let t : Tree = c.in-Tree.tree.tree in
    let accepted : Accepted P (Solved t) cert = subst (λ (a : Answer). Accepted P a cert) (ap answer_of c.in-Tree.is) c.requires.accepted in
    let none : length c.in_ok-made.made.leaves ≡ 0 = ap (λ (d : Certificate). length d.leaves) c.in_ok-made.ensures in
    rw (c.as_slice-proofs.ensures.value, c.root.ensures.tree, none) (accepted_counted P t cert accepted)

pub returns : goal.returns
returns c =
    let P = c.args.problem.now in
    let a = answer_of c.args.answer.now in
    let cert = c.args.certificate.now in
    let empty : c.in_ok-made.made ≡ record { shares = true; vector = cert.vector; leaves = [] } = search rules in
    elim c.match-answer.branch [
      | in-Void+in_ok-share_proofs-in-Void+in_ok-push-in-Void w ↦
          let at : w.index-proofs-0.result ≡ get_or cert.leaves 0 w.index-proofs-0.result = search rules in
          let size = ap₂ (λ (i : ℕ) (rows : List (List ℤ)). i + length rows) w.params.ensures.value w.context.ensures.value in
          w.made-is ∙ void_made P a cert c.in_ok-made.made w.push.new.self c.requires.accepted empty w.index-proofs-0.result w.in_ok-share_proofs-in-Void.field-0 (w.params.result + length w.context.result.now) (ap answer_of w.in-Void.is) at size w.in_ok-share_proofs-in-Void.ensures w.in_ok-push-in-Void.ensures.ok
      | in-Tree+in_ok-share_node-in-Tree w ↦
          w.made-is ∙ tree_made P a cert c.in_ok-made.made w.share_node.new.made c.requires.accepted empty w.in-Tree.tree.tree (ap answer_of w.in-Tree.is)
          (rw (w.root.ensures.tree, c.as_slice-proofs.ensures.value) at w.in_ok-share_node-in-Tree.ensures)
    ]

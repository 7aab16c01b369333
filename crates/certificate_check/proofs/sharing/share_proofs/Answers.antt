use Rattle.certificate_check.proofs.Words.{◌≡◌, sym, ◌∙◌, ap, ℕ, List, length, map, get_or, arith, rules, Refutation, LeafProofs, shared_by, after_shared, sized}
use Rattle.certificate_check.proofs.Commons.{shared_within, moved_step, moved_all}
use Rattle.certificate_check.proofs.sharing.share_proofs.Goals as goal

pub moved_rest-requires : goal.moved_rest-requires
moved_rest-requires c =
    let refs = c.as_slice-refutations.result.now in
    let count : length refs ≡ length c.args.sizes.now = ap length c.as_slice-refutations.ensures.value ∙ c.requires in
    let size : c.len-n.result ≡ length (shared_by c.args.leaf (map sized c.args.sizes.now) refs) = search rules in
    let within = shared_within c.args.leaf c.args.sizes.now refs c.loop-r.r c.index-refutations-r.result count (omega arith) in
    let is : length c.index-refutations-r.result ≡ length (get_or refs c.loop-r.r c.index-refutations-r.result) = ap length c.index-refutations-r.is in
    omega arith

pub loop-r-preserved : goal.loop-r-preserved
loop-r-preserved c =
    let refs = c.as_slice-refutations.result.now in
    let count : length refs ≡ length c.args.sizes.now = ap length c.as_slice-refutations.ensures.value ∙ c.requires in
    moved_step c.args.leaf c.len-n.result c.args.sizes.now refs c.loop-r.r 0 c.index-refutations-r.result c.loop-r.made c.push.new.self c.in_ok-rest.rest (shared_by c.args.leaf (map sized c.args.sizes.now) refs) (sym count) (omega arith) (search rules) c.loop-r.invariant (search rules)

pub returns : goal.returns
returns c =
    let refs = c.as_slice-refutations.result.now in
    let count : length refs ≡ length c.args.sizes.now = ap length c.as_slice-refutations.ensures.value ∙ c.requires in
    let size : c.len-n.result ≡ length (shared_by c.args.leaf (map sized c.args.sizes.now) refs) = search rules in
    let first = shared_by c.args.leaf (map sized c.args.sizes.now) refs in
    c.loop-r.invariant
    ∙ ap (λ (xs : List Refutation). let q : LeafProofs = record { shared = first; refutations = xs } in q) (moved_all c.args.leaf c.len-n.result c.args.sizes.now refs c.loop-r.r (sym count) (omega arith))
    ∙ ap (λ (n : ℕ). let q : LeafProofs = record { shared = first; refutations = after_shared c.args.leaf n (map sized c.args.sizes.now) refs } in q) size
    ∙ ap (λ (xs : List Refutation). let q : LeafProofs = record { shared = shared_by c.args.leaf (map sized c.args.sizes.now) xs; refutations = after_shared c.args.leaf (length (shared_by c.args.leaf (map sized c.args.sizes.now) xs)) (map sized c.args.sizes.now) xs } in q) c.as_slice-refutations.ensures.value

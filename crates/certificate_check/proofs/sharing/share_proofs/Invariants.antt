use Rattle.certificate_check.proofs.Words.{◌≡◌, take, map, shared_by, after_shared, sized}
use Rattle.certificate_check.proofs.sharing.share_proofs.Given as goal

abbrev pub invariant-loop-r : goal.invariant-loop-r
invariant-loop-r l =
    l.made ≡ record {
      shared = shared_by l.leaf (map sized l.sizes) l.refutations;
      refutations = take l.r (after_shared l.leaf l.n (map sized l.sizes) l.refutations);
    }

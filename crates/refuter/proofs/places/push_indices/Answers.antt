use Rattle.refuter.proofs.Words.{rules, ◌≡◌, ◌∙◌, ap, sym, pos, ◌+◌, ◌++◌, [], ◌∷◌, List, ℤ, append_assoc, All-push, indices, Fits}
use Rattle.refuter.proofs.IndexLists.{indices-last}
use Rattle.refuter.proofs.places.push_indices.Goals as goal

pub loop-i-preserved : goal.loop-i-preserved
loop-i-preserved c =
    let made : c.push.new.self.items ≡ c.loop-i.list.items ++ pos (c.args.first + c.loop-i.i) ∷ [] = search rules in
    let fit : Fits (pos (c.args.first + c.loop-i.i)) = search rules in
    record {
      value = made ∙ ap (λ (V : List ℤ). V ++ pos (c.args.first + c.loop-i.i) ∷ []) c.loop-i.invariant.value ∙ append_assoc c.args.list.now.items (indices c.args.first c.loop-i.i) (pos (c.args.first + c.loop-i.i) ∷ [])
          ∙ ap (λ (V : List ℤ). c.args.list.now.items ++ V) (sym (indices-last c.args.first c.loop-i.i));
      fits = rw made (All-push Fits c.loop-i.list.items (pos (c.args.first + c.loop-i.i)) c.loop-i.invariant.fits fit);
    }

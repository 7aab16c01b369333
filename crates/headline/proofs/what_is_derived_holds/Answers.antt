use Rattle.check_laws.proofs.Refutations.{holds-after_steps, refuted}
use Rattle.headline.proofs.what_is_derived_holds.Goals as goal

pub returns : goal.returns
returns c = record {
  derived = λ l r i w u known now ss long all e. holds-after_steps l r i w u known ss now long all e;
  refuted = λ l r w u s ss e long all. (refuted l r w s ss e).none u long all;
}

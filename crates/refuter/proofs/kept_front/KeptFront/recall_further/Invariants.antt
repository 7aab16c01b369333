use Rattle.refuter.proofs.Words.{◌≡◌, AreFirst}
use Rattle.refuter.proofs.kept_front.KeptFront.recall_further.Given as goal

abbrev pub invariant-loop : goal.invariant-loop
invariant-loop l = record {
  width : l.self.width ≡ l.fn.self.width;
  count : l.self.count ≡ l.counter;
  first : AreFirst l.self l.known;
}

use Rattle.refuter.proofs.KeptFirst.{none-first}
use Rattle.refuter.proofs.kept_front.KeptFront.keep_within.Goals as goal

pub returns : goal.returns
returns c known h = none-first c.forget.new.self known c.forget.ensures

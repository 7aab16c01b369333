use Rattle.std.proofs.Common.{refl}
use Rattle.promised_steps.proofs.turns.take_turn.Goals as goal

pub returns : goal.returns
returns c = record { gives = c.take_turn.ensures.gives; place = c.take_turn.ensures.place refl }

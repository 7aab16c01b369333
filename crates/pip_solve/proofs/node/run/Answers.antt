use Rattle.pip_solve.proofs.Words.{rules, refl, ◌≡◌, Work, give, turned_run, whole_run, IsNextNode, weight}
use Rattle.pip_solve.proofs.Handing.{follows, kept_room, goes_on, smaller, goes_on_again, smaller_again, ends}
use Rattle.node_turn.proofs.Knowing.{known_none, known_on}
use Rattle.pip_solve.proofs.node.run.Goals as goal

pub loop-turn-init : goal.loop-turn-init
loop-turn-init c = record {
  on = record { running = c.requires.running; budget = c.requires.budget; params = refl; same = refl };
  room = c.requires.room;
  known = known_none c.args.path.now.context.forms c.args.path.now.context.width c.args.work.now.budget c.forget.new.self c.forget.ensures;
}

pub follow-requires-clause-room : goal.follow-requires-clause-room
follow-requires-clause-room c = kept_room c.loop-turn.rooms.pending.most c.loop-turn.path c.take_turn.new.path c.take_turn.ensures.path c.loop-turn.invariant.room

pub follow-requires-clause-turned : goal.follow-requires-clause-turned
follow-requires-clause-turned c = follows c.args.rows.now c.args.path.now c.args.rooms.now.pending c.args.work.now c.loop-turn.rows c.loop-turn.path c.loop-turn.rooms.pending c.loop-turn.work c.loop-turn.invariant.on c.take_turn.new.rows c.take_turn.new.path c.in_ok-turn.turn c.take_turn.new.work c.in_ok-turn.ensures.gives.agrees c.in_ok-turn.ensures.turn c.take_turn.ensures.path c.take_turn.ensures.gives.counted.budget

pub loop-turn-smaller : goal.loop-turn-smaller
loop-turn-smaller c =
    let n : IsNextNode (weight c.in_ok-turn.turn) c.take_turn.new.path c.loop-turn.rooms.pending c.follow.new.rows c.follow.new.path c.follow.new.pending = search rules in
    smaller c.args.rows.now c.args.path.now c.args.rooms.now.pending c.args.work.now c.loop-turn.rows c.loop-turn.path c.loop-turn.rooms.pending c.loop-turn.work c.loop-turn.invariant.on c.take_turn.new.rows c.take_turn.new.path c.in_ok-turn.turn c.take_turn.new.work c.in_ok-turn.ensures.gives.agrees c.in_ok-turn.ensures.turn c.take_turn.ensures.path c.take_turn.ensures.gives.counted.budget c.follow.new.rows c.follow.new.path c.follow.new.pending n

pub loop-turn-preserved : goal.loop-turn-preserved
loop-turn-preserved c =
    let n : IsNextNode (weight c.in_ok-turn.turn) c.take_turn.new.path c.loop-turn.rooms.pending c.follow.new.rows c.follow.new.path c.follow.new.pending = search rules in
    let same : (x : Work) → turned_run c.take_turn.new.rows c.take_turn.new.path c.loop-turn.rooms.pending.frames c.in_ok-turn.turn x ≡ whole_run c.follow.new.rows c.follow.new.path c.follow.new.pending.frames x = rw c.in-Node.is at c.in_ok-follow.ensures.gives in
    record {
      on = goes_on c.args.rows.now c.args.path.now c.args.rooms.now.pending c.args.work.now c.loop-turn.rows c.loop-turn.path c.loop-turn.rooms.pending c.loop-turn.work c.loop-turn.invariant.on c.take_turn.new.rows c.take_turn.new.path c.in_ok-turn.turn c.take_turn.new.work c.in_ok-turn.ensures.gives.agrees c.in_ok-turn.ensures.turn c.take_turn.ensures.path c.take_turn.ensures.gives.counted.budget c.follow.new.rows c.follow.new.path c.follow.new.pending n same;
      room = rw c.in-Node.is at c.in_ok-follow.ensures.room;
      known = known_none c.follow.new.path.context.forms c.follow.new.path.context.width c.take_turn.new.work.budget c.forget-in-loop-turn.new.self c.forget-in-loop-turn.ensures;
    }

pub loop-turn-smaller-in-Again : goal.loop-turn-smaller-in-Again
loop-turn-smaller-in-Again c = smaller_again c.args.rows.now c.args.path.now c.args.rooms.now.pending c.args.work.now c.loop-turn.rows c.loop-turn.path c.loop-turn.rooms.pending c.loop-turn.work c.loop-turn.invariant.on c.take_turn.new.rows c.take_turn.new.path c.in_ok-turn.turn c.take_turn.new.work c.in_ok-turn.ensures.gives.agrees c.in_ok-turn.ensures.turn c.take_turn.ensures.path c.take_turn.ensures.gives.counted.budget c.in-Again.is

pub loop-turn-preserved-in-Again : goal.loop-turn-preserved-in-Again
loop-turn-preserved-in-Again c = record {
  on = goes_on_again c.args.rows.now c.args.path.now c.args.rooms.now.pending c.args.work.now c.loop-turn.rows c.loop-turn.path c.loop-turn.rooms.pending c.loop-turn.work c.loop-turn.invariant.on c.take_turn.new.rows c.take_turn.new.path c.in_ok-turn.turn c.take_turn.new.work c.in_ok-turn.ensures.gives.agrees c.in_ok-turn.ensures.turn c.take_turn.ensures.path c.take_turn.ensures.gives.counted.budget c.in-Again.is;
  room = kept_room c.loop-turn.rooms.pending.most c.loop-turn.path c.take_turn.new.path c.take_turn.ensures.path c.loop-turn.invariant.room;
  known = known_on c.loop-turn.path.context c.take_turn.new.path.context c.loop-turn.work.budget c.take_turn.new.work.budget c.take_turn.new.known c.take_turn.ensures.path.context c.take_turn.ensures.gives.counted.budget c.take_turn.ensures.known;
}

pub returns-in-Tree-clause-gives : goal.returns-in-Tree-clause-gives
returns-in-Tree-clause-gives c =
    let same : (x : Work) → turned_run c.take_turn.new.rows c.take_turn.new.path c.loop-turn.rooms.pending.frames c.in_ok-turn.turn x ≡ give c.in-Tree.tree.tree x = rw c.in-Tree.is at c.in_ok-follow.ensures.gives in
    ends c.args.rows.now c.args.path.now c.args.rooms.now.pending c.args.work.now c.loop-turn.rows c.loop-turn.path c.loop-turn.rooms.pending c.loop-turn.work c.loop-turn.invariant.on c.take_turn.new.rows c.take_turn.new.path c.in_ok-turn.turn c.take_turn.new.work c.in_ok-turn.ensures.gives.agrees c.in_ok-turn.ensures.turn c.take_turn.ensures.path c.take_turn.ensures.gives.counted.budget c.in-Tree.tree.tree same

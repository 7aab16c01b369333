use Rattle.pip_trial.proofs.Words.{◌≡◌, ◌+◌, ap, arith, size, tree_of}
use Rattle.pip_trial.proofs.Rooms.{less_room, room_behind}
use Rattle.pip_trial.proofs.tally.Tally.+count_node.Goals as goal

pub count_node-requires-in-Select : goal.count_node-requires-in-Select
count_node-requires-in-Select t c =
    let a = tree_of c.deref.result.now in
    let b = tree_of c.deref-in-Select.result.now in
    let whole : size (tree_of c.args.node.now) ≡ 1 + size (tree_of c.in-Select.first.value) + size (tree_of c.in-Select.second.value) = ap (λ node. size (tree_of node)) c.in-Select.is in
    let first : size (tree_of c.deref.result.now) ≡ size (tree_of c.in-Select.first.value) = ap (λ node. size (tree_of node)) c.deref.ensures in
    let second : size (tree_of c.deref-in-Select.result.now) ≡ size (tree_of c.in-Select.second.value) = ap (λ node. size (tree_of node)) c.deref-in-Select.ensures in (
      omega arith,
      room_behind a b c.args.self.now c.count_node.new.self c.count_node.ensures (less_room (size a + size b) (size (tree_of c.args.node.now)) c.args.self.now (omega arith) c.requires.room),
    )

use Rattle.node_turn.proofs.Words.{rules, ◌≡◌, [], ◌∷◌, ◌++◌, ◌+◌, length, is_ok, if◌then◌else◌}
use Rattle.node_turn.proofs.KnownPlaces.{forms_after}
use Rattle.node_turn.proofs.known.NonnegativeForms.add.Goals as goal

pub returns-then-is_ok : goal.returns-then-is_ok
returns-then-is_ok c =
    let ns = c.self.inside.numbers.items in
    let ps = c.self.inside.places.items in
    let numbers : c.extend_from_slice.new.self.items ≡ ns ++ c.args.entries.now = search rules in
    let start : c.len-start.result ≡ length ns = search rules in
    let end : c.len-end.result ≡ length ns + length c.args.entries.now = search rules in
    let places : c.push.new.self.items ≡ (if is_ok c.push.result then ps ++ record { start = c.len-start.result; end = c.len-end.result; key = c.key_of.result; counts = c.args.counts } ∷ [] else ps) = search rules in
    rw (← c.self.view_is) (forms_after ns c.args.entries.now c.key_of.result c.args.counts ps c.self.invariant.0 c.extend_from_slice.new.self.items c.push.new.self.items c.len-start.result c.len-end.result (is_ok c.push.result) numbers start end places)

use Rattle.node_turn.proofs.Words.{◌≡◌, ◌<◌, get_or, length, slice_range, NonnegativePlace}
use Rattle.node_turn.proofs.KnownPlaces.{form_within}
use Rattle.node_turn.proofs.known.NonnegativeForms.find.Goals as goal

pub returns-then-are_same : goal.returns-then-are_same
returns-then-are_same c =
    let none : NonnegativePlace = record { start = 0; end = 0; key = 0; counts = record { pivots = 0; cuts = 0; splits = 0 } } in
    let place : NonnegativePlace = get_or c.deref-place-items.result.now c.loop-place.place-index none in
    let same : slice_range c.deref.result.now place.start place.end ≡ c.args.entries.now = c.are_same.ensures c.if-are_same.true in
    let entries : slice_range c.self.inside.numbers.items (get_or c.self.inside.places.items c.loop-place.place-index none).start (get_or c.self.inside.places.items c.loop-place.place-index none).end ≡ c.args.entries.now = rw (c.deref-place-items.ensures.value, c.deref.ensures.value) at same in
    let within : c.loop-place.place-index < length c.self.inside.places.items = rw c.deref-place-items.ensures.value at c.loop-place-test.true in
    rw (← c.self.view_is, c.deref-place-items.ensures.value) (form_within c.self.inside.numbers.items c.self.inside.places.items c.loop-place.place-index none c.args.entries.now within entries)

use Rattle.item_writing.proofs.Words.{◌≡◌, ◌-◌, ◌≤◌, [], item_text, Gained}
use Rattle.item_writing.proofs.Written.{LeadTo}
use Rattle.item_writing.proofs.items.write_items_in.Given as goal

abbrev pub invariant-loop-text : goal.invariant-loop-text
invariant-loop-text g l =
    (l.at ≤ g.C.Items.last_place l.command l.bytes)
    × (l.text.items ≡ [])
    × Gained (LeadTo (item_text (g.C.Items.meaning l.command) l.bytes) l.at) (g.K.Sink.written l.fn.sink) (g.K.Sink.written l.sink)
    × (g.K.Sink.faults l.sink ≡ g.K.Sink.faults l.fn.sink)

abbrev pub decreases-loop-text : goal.decreases-loop-text
decreases-loop-text g l = g.C.Items.last_place l.command l.bytes - l.at

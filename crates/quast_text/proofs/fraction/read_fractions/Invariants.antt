use Rattle.quast_text.proofs.Words.{◌≡◌, ◌-◌, ◌≤◌, length, fractions, with_front}
use Rattle.quast_text.proofs.fraction.read_fractions.Given as goal

abbrev pub invariant-loop : goal.invariant-loop
invariant-loop l =
    (with_front l.read.items (fractions l.bytes (l.count - l.counter) l.at) ≡ fractions l.bytes l.count l.place)
    × (length l.read.items ≡ l.counter)
    × (l.place ≤ l.at)
    × (l.at ≤ length l.bytes)

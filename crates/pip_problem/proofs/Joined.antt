-- Two lists in front of others.
use Rattle.std.proofs.Common.{◌≡◌, ◌+◌, ℤ, List, ◌++◌, length, take, refl}
use Rattle.std.proofs.Math.Seq.{take-append_seam, take-append-add}

pub two_in_front : (a b c : List ℤ) → take (length a + length b) (a ++ (b ++ c)) ≡ a ++ b
two_in_front a b c = rw (take-append-add a (b ++ c) (length b), take-append_seam b c) refl

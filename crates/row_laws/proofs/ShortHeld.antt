-- Short numbers as code holds them: written to bits and read back.
use Rattle.row_laws.proofs.Words.{ℕ, ◌<◌, ℤ, pos, to_z, of_z, arith, List, length, get_or, w128, to_z-of_z, fits_signed_from_abs, All-get_or, IsShort}
use Rattle.std.proofs.Common.{All}

pub short_held : (z : ℤ) → IsShort z → IsShort (to_z w128 (of_z w128 z))
short_held z h = rw (to_z-of_z w128 z (fits_signed_from_abs w128 z (omega arith))) h

pub short_entry_held : (xs : List ℤ) (i : ℕ) → All IsShort xs → i < length xs → IsShort (to_z w128 (of_z w128 (get_or xs i (pos 0))))
short_entry_held xs i all h = short_held (get_or xs i (pos 0)) (All-get_or IsShort xs i (pos 0) h all)

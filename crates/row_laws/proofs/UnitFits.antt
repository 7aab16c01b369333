-- The row of a column is a row.
use Rattle.row_laws.proofs.Words.{refl, ◌∙◌, ℕ, ◌+◌, ◌<◌, pos, replicate, arith, length-set, length-replicate, ints, All-set, All-replicate, Fits, unit_row, IsRow}

pub unit_fits : (n w c : ℕ) → c < n → IsRow n w (unit_row n w c)
unit_fits n w c h = record {
  positive = omega (arith, ints);
  den_fits = refl;
  coefs = length-set (replicate n (pos 0)) c (pos 1) ∙ length-replicate n (pos 0);
  constant = length-replicate (w + 1) (pos 0);
  coefs_fit = All-set Fits (replicate n (pos 0)) c (pos 1) refl (All-replicate Fits n (pos 0) refl);
  constant_fit = All-replicate Fits (w + 1) (pos 0) refl;
}

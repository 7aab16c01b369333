-- The numbers of a column's row.
use Rattle.std.specs.Prelude.{ℕ, ◌+◌, ℤ, pos, List, replicate, slice_set}

-- how many numbers a row has over n columns and w places
abbrev pub row_size : ℕ → ℕ → ℕ
row_size n w = n + (w + 1)

-- the s numbers of the row of column c
abbrev pub unit_numbers : ℕ → ℕ → List ℤ
unit_numbers s c = slice_set (replicate s (pos 0)) c (pos 1)

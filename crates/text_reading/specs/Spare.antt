-- The rows that are kept as rooms for rows that are read next.
use Rattle.std.specs.Prelude.{ℕ}

-- the most of them
abbrev pub most_spare_rows : ℕ
most_spare_rows = 1024

-- Tables of rows that are kept, and what steps make of them.
use Rattle.std.specs.Prelude.{◌≡◌, ℕ, ◌+◌, ◌*◌, ◌<◌, ◌≤◌, ℤ, pos, ◌≤ℤ◌, IsTrue, List, [], ◌∷◌, ◌++◌, length, take, drop, map, flat_map}
use Rattle.pip_model.specs.Forms.{entry}
use Rattle.pip_model.specs.Rows.{Row, row_at, eliminated, eliminated_listed}
use Rattle.pip_model.specs.Listed.{all_fit}
use Rattle.row_laws.specs.Rows.{IsRow, IsReduced}
use Rattle.tableau.specs.declared.kept.Lent.{Lent}
use Rattle.tableau.specs.declared.kept.Kept.{Kept}
use Rattle.tableau.specs.Places.{row_length, lent_row, lent_rows, AreLent, unit_run}

-- rows over so many columns and places, and the number of rows that there is room for
pub record KeptRows : Type 0 where
  pub unknowns : ℕ
  pub width : ℕ
  pub most : ℕ
  pub rows : List Row

-- the row stays as it is in the pivot on row p and column c, and its listed numbers fit
pub record IsSteady (p : Row) (c : ℕ) (r : Row) : Type 0 where
  pub listed : IsTrue (all_fit (eliminated_listed p c r))
  pub stays : r ≡ eliminated p c r

-- the capacities are enough for the rows
pub record HasRoom (n w most count kept_capacity numbers_capacity : ℕ) : Type 0 where
  pub few : count ≤ most
  pub kept : most ≤ kept_capacity
  pub numbers : most * row_length n w ≤ numbers_capacity

-- rows over the columns and places of those that are lent, with the run of the columns' rows
pub record IsOver (t : KeptRows) (v : Lent) : Type 0 where
  pub unknowns : t.unknowns ≡ v.unknowns
  pub width : t.width ≡ v.width
  pub units : v.units.now ≡ unit_run v.unknowns v.width

-- the same, with one place more
pub record IsWider (t : KeptRows) (v : Lent) : Type 0 where
  pub unknowns : t.unknowns ≡ v.unknowns
  pub width : t.width ≡ v.width + 1
  pub units : v.units.now ≡ unit_run v.unknowns v.width

-- the kept rows, as they are lent, are those of the table
pub record AreLentOf (t : KeptRows) (v : Lent) (ks : List Kept) : Type 0 where
  pub over : IsOver t v
  pub lent : AreLent v ks
  pub rows : lent_rows v ks ≡ t.rows
  pub count : length ks ≡ length t.rows
  pub few : length t.rows ≤ t.most

-- row r of rows over n columns is positive in column c
pub record IsPivot (n : ℕ) (rows : List Row) (r c : ℕ) : Type 0 where
  pub row : r < length rows
  pub column : c < n
  pub positive : pos 1 ≤ℤ entry (row_at rows r).coefs c

-- what the kept rows are after the pivot on row p and column c, and their listed numbers
abbrev pub turned : Row → ℕ → Lent → List Kept → List Row
turned p c v ks = map (λ k. eliminated p c (lent_row v k)) ks

abbrev pub turned_listed : Row → ℕ → Lent → List Kept → List ℤ
turned_listed p c v ks = flat_map (λ k. eliminated_listed p c (lent_row v k)) ks

-- the rows with one more
abbrev pub with_more : KeptRows → Row → KeptRows
with_more t r = record t { rows = t.rows ++ r ∷ [] }

-- the rows with these behind them
abbrev pub with_rows : KeptRows → List Row → KeptRows
with_rows t rs = record t { rows = t.rows ++ rs }

-- over the same columns and places, and with the same room
pub record SameShape (s t : KeptRows) : Type 0 where
  pub unknowns : s.unknowns ≡ t.unknowns
  pub width : s.width ≡ t.width
  pub most : s.most ≡ t.most

-- the same rows; there may be room for others
pub record SameRows (s t : KeptRows) : Type 0 where
  pub unknowns : s.unknowns ≡ t.unknowns
  pub width : s.width ≡ t.width
  pub rows : s.rows ≡ t.rows

-- there is room for so many rows in both, and the run is there
pub record AreReady (rows next : KeptRows) (run : List ℤ) (count : ℕ) : Type 0 where
  pub room : count ≤ rows.most
  pub next_room : count ≤ next.most
  pub units : run ≡ unit_run rows.unknowns rows.width

-- the next rows have room for as many rows, and the run is there where there is a row
pub record IsSpare (rows next : KeptRows) (units : List ℤ) : Type 0 where
  pub unknowns : next.unknowns ≡ rows.unknowns
  pub width : next.width ≡ rows.width
  pub room : length rows.rows ≤ next.most
  pub begun : 0 < length rows.rows → 0 < length units
  pub run : 0 < length units → units ≡ unit_run rows.unknowns rows.width

-- these are made of the next rows, over the rows that are lent, and so many are left to make
pub record AreNext (t next : KeptRows) (units : List ℤ) (v : Lent) (rows : List Row) (left : ℕ) (s : KeptRows) : Type 0 where
  pub is : s ≡ record next { rows = rows }
  pub count : length s.rows + left ≡ length t.rows
  pub over : IsOver s v
  pub spare : IsSpare t s units

-- the kept rows in front of row r, the row, and the kept rows behind it, as they are lent; none of the next rows is made
pub record AreSides (t next : KeptRows) (units : List ℤ) (r : ℕ) (cleared : KeptRows) (v : Lent) (before : List Kept) (p : Row) (behind : List Kept) : Type 0 where
  pub begun : AreNext t next units v [] (length t.rows) cleared
  pub over : IsOver t v
  pub few : length t.rows ≤ t.most
  pub front : lent_rows v before ≡ take r t.rows
  pub row : p ≡ row_at t.rows r
  pub back : lent_rows v behind ≡ drop (r + 1) t.rows
  pub count : length before + 1 + length behind ≡ length t.rows
  pub front_lent : AreLent v before
  pub back_lent : AreLent v behind
  pub formed : IsRow v.unknowns v.width p
  pub reduced : IsReduced p

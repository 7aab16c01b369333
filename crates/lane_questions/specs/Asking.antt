-- What is kept from question to question of a context in lanes.
use Rattle.std.specs.Prelude.{◌≡◌, ℕ, ◌≤◌, ℤ, Bool, false, IsTrue, List, length, take}
use Rattle.lane_questions.specs.InLanes.{all_lanes}
use Rattle.lane_questions.specs.Kept.{LaneVertex, IsKeptLanes, IsEndedLanes}

-- the first forms of a context in lanes, the run of the first so many where one is kept, an earlier one of fewer, and
-- whether it was tried to make the run of all
pub record LaneState : Type 0 where
  pub forms : List (List ℤ)
  pub is_kept : Bool
  pub known : ℕ
  pub kept : LaneVertex
  pub is_earlier : Bool
  pub fewer : ℕ
  pub earlier : LaneVertex
  pub tried : Bool

-- they are those of these forms over n places
pub record IsAsking (n : ℕ) (K : List (List ℤ)) (s : LaneState) : Type 0 where
  pub number : length s.forms ≤ length K
  pub forms : s.forms ≡ all_lanes (take (length s.forms) K)
  pub within : IsTrue s.is_kept → s.known ≤ length K
  pub kept : IsTrue s.is_kept → IsEndedLanes n (take s.known K) s.kept
  pub earlier_within : IsTrue s.is_earlier → s.fewer ≤ length K
  pub earlier_kept : IsTrue s.is_earlier → IsEndedLanes s.earlier.table.unknowns (take s.fewer K) s.earlier
  pub tried_forms : IsTrue s.tried → IsTrue s.is_kept → length s.forms ≡ length K
  pub tried_all : IsTrue s.tried → IsTrue s.is_kept → s.known ≡ length K

-- no run is kept of all
abbrev pub unkept : LaneState → LaneState
unkept s = record s { is_kept = false; tried = false }

-- a run of the first so many forms is begun
pub record IsBegun (n : ℕ) (K : List (List ℤ)) (s : LaneState) : Type 0 where
  pub within : s.known ≤ length K
  pub kept : IsKeptLanes n (take s.known K) s.kept

-- the run of all forms is made, and all stand in lanes
pub record IsMade (n : ℕ) (K : List (List ℤ)) (s : LaneState) : Type 0 where
  pub forms : s.forms ≡ all_lanes K
  pub kept : IsEndedLanes n K s.kept

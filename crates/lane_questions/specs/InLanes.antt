-- Forms in lanes.
use Rattle.std.specs.Prelude.{◌≡◌, ℕ, ◌-◌, ◌^◌, ◌<◌, ◌≤◌, ℤ, pos, List, [], ◌∷◌, ◌++◌, length, map, replicate, take, drop}
use Rattle.pip_model.specs.Forms.{width, entry, coefficients, constant}
pub use Rattle.lane_run.specs.Within.{IsWithin, AreWithin}

-- the eight numbers of a form over at most 7 places: lane 0 is the constant, lane k + 1 the coefficient of place k, 0
-- where there is none
abbrev pub lanes_of : List ℤ → List ℤ
lanes_of c = constant c ∷ coefficients c ++ replicate (7 - width c) (pos 0)

-- the form over w places that stands in lanes
abbrev pub form_in : ℕ → List ℤ → List ℤ
form_in w lanes = take w (drop 1 lanes) ++ entry lanes 0 ∷ []

abbrev pub all_lanes : List (List ℤ) → List (List ℤ)
all_lanes K = map lanes_of K

-- forms in lanes, and a number that no form's sum of sizes passes
pub record NormedForms : Type 0 where
  pub forms : List (List ℤ)
  pub norm : ℕ

pub record AreNormed (forms : List (List ℤ)) (most : ℕ) : Type 0 where
  pub within : AreWithin most forms
  pub small : most < 2 ^ 30

-- the first of these forms in lanes
pub record AreFirst (K forms : List (List ℤ)) : Type 0 where
  pub number : length forms ≤ length K
  pub same : forms ≡ all_lanes (take (length forms) K)

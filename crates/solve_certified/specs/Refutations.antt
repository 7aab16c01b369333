-- One refutation by its known forms, over what is in scope at a leaf and some of the unknowns.
use Rattle.std.specs.Prelude.{ℕ, ◌+◌, ℤ, pos, List, ◌++◌, length, map}
use Rattle.pip_model.specs.Certificate.{Refutation}
use Rattle.pip_model.specs.Run.{Counted, ◌>>=◌, give}
use Rattle.pip_model.specs.Refuting.{indices, refute}
use Rattle.pip_model.specs.Made.{quotient_steps, narrow_to, steps_or_none}
use Rattle.solve_certified.specs.Quotients.{ReadsPlaces}
use Rattle.solve_certified.specs.declared.refutation.Scope.{Scope}

-- the indices of the places: the parameters, the quotients' steps behind so many known forms, n unknowns
abbrev pub places_of : Scope → ℕ → ℕ → List ℤ
places_of s count n = indices 0 s.params ++ indices count (length s.quotients.now) ++ indices s.own n

abbrev pub refuted_by : Scope → ℕ → List (List ℤ) → Counted Refutation
refuted_by s n known =
    let w = s.params + length s.quotients.now + n in
    let count = length known in
    let places = places_of s count n in
    do
      found ← refute w (map (narrow_to w) known) places (pos (count + length s.quotients.now))
      give (quotient_steps s.front count (indices 0 s.params) s.quotients.now ++ steps_or_none found)

-- each quotient is over the places before it
abbrev pub IsScope : Scope → Type 0
IsScope s = ReadsPlaces s.params s.quotients.now

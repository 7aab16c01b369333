-- The end of the first group of a text that comes in pieces.
use Rattle.std.specs.Prelude.{◌≡◌, ℕ, zero, suc, ◌+◌, ◌==◌, ◌≢◌, List, [], ◌∷◌, fold, drop, Option, Some, None, if◌then◌else◌}
use Rattle.std.specs.Option.{option_map}
use Rattle.pip_model.specs.Reading.{open_after, closing, next_open}

-- the end of the group that begins at a place
abbrev pub group_behind : List ℕ → Option ℕ → Option ℕ
group_behind bytes None = None
group_behind bytes (Some place) = closing 1 (suc place) (drop (suc place) bytes)

-- the place after the `)` that balances the first `(`
abbrev pub first_group_end : List ℕ → Option ℕ
first_group_end bytes = group_behind bytes (next_open 0 bytes)

-- the same from a place on where so many brackets are open
abbrev pub group_end_from : ℕ → ℕ → List ℕ → Option ℕ
group_end_from depth place [] = None
group_end_from zero place (b ∷ bs) = if b == 40 then closing 1 (suc place) bs else group_end_from zero (suc place) bs
group_end_from (suc d) place (b ∷ bs) = closing (suc d) place (b ∷ bs)

-- so many brackets are open behind these bytes, whose first group has not ended
pub record IsScanned (seen : List ℕ) (depth : ℕ) : Type 0 where
  pub open_brackets : depth ≡ fold open_after 0 seen
  pub not_ended : first_group_end seen ≡ None

-- a place among the bytes behind so many
abbrev pub place_behind : ℕ → Option ℕ → Option ℕ
place_behind n result = option_map (λ after. n + after) result

-- the byte is no bracket
abbrev pub NoBracket : ℕ → Type 0
NoBracket b = (b ≢ 40) × (b ≢ 41)

-- What a window holds once the bytes before the next `(` are dropped.
use Rattle.std.specs.Prelude.{◌≡◌, ℕ, ◌+◌, ◌≤◌, Bool, true, false, [], length, take, drop, Some, Result, Ok, Err}
use Rattle.std.specs.List.{list_all}
use Rattle.pip_outside.specs.Windows.{HeldBytes}
use Rattle.pip_model.specs.Moved.{is_closed}
use Rattle.pip_model.specs.Reading.{next_open}
use Rattle.pip_stream.specs.Windows.{HoldsPiece, TakesTo}
use Rattle.pip_stream.specs.declared.refusal.NextRefusal.{NextRefusal}
use Rattle.pip_stream.specs.declared.refusal.NextRefusal.TheVariants as next

-- a `(` is the first byte, or no byte is held
abbrev pub BeginsOpen : HeldBytes → Bool → Type 0
BeginsOpen w true = next_open 0 w.held ≡ Some 0
BeginsOpen w false = w.held ≡ []

-- of the held bytes those before the first `(` were dropped, or all
pub record DropsClosed (old new : HeldBytes) (found : Bool) : Type 0 where
  pub count : ℕ
  pub few : count ≤ length old.held
  pub is : new ≡ record old { held = drop count old.held; base = old.base + count }
  pub closed : list_all is_closed (take count old.held) ≡ true
  pub open_now : BeginsOpen new found

-- no byte is held where the search for a `(` is refused, but for the one too many
abbrev pub IsUnopened : HeldBytes → NextRefusal → Type 0
IsUnopened w next.InputBytes = length w.held ≡ 1
IsUnopened w e = w.held ≡ []

-- the window where that search ends
abbrev pub IsOpened : HeldBytes → Result Bool NextRefusal → Type 0
IsOpened w (Ok found) = BeginsOpen w found × HoldsPiece w
IsOpened w (Err e) = IsUnopened w e × TakesTo w e

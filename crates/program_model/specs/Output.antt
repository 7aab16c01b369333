-- What the program writes for an input, how it ends, and what is right of that.
use Rattle.std.specs.Prelude.{◌≡◌, ℕ, List, Ok, Err}
use Rattle.program_model.specs.Endings.{Ending}
use Rattle.program_model.specs.Items.{FirstItems, Items, IsItself, NoEnd}
use Rattle.program_model.specs.Commands.{Command, way, Item, item_at, text_of, item_text}

-- the texts of the items of an input up to the first end, and that end
abbrev pub IsOutput : Command → List ℕ → List (List ℕ) → Ending → Type 0
IsOutput c bytes ts e = Items (item_text c bytes) IsItself NoEnd 0 ts e

-- the texts of the first items: what is written where the program ends early, by a fault of the outside or by want
-- of memory
abbrev pub IsFirstOutput : Command → List ℕ → List (List ℕ) → Type 0
IsFirstOutput c bytes ts = FirstItems (item_text c bytes) IsItself 0 ts

-- ---- what is right

-- what is promised of the text of an item: of `trial` no more than that it is the command's
abbrev pub IsRightText : (c : Command) → Item c → List ℕ → Type 0
IsRightText c = (way c).IsRightText

-- what is promised of the end at a refused item
abbrev pub IsRightEnd : (c : Command) → Item c → Ending → Type 0
IsRightEnd c = (way c).IsRightEnd

-- the text is the command's, and right
abbrev pub WritesRight : (c : Command) → Item c → List ℕ → Type 0
WritesRight c x t = (text_of c x ≡ Ok t) × IsRightText c x t

abbrev pub EndsRight : (c : Command) → Item c → Ending → Type 0
EndsRight c x e = (text_of c x ≡ Err e) × IsRightEnd c x e

-- the same texts and the same end, each right for the item in its place
abbrev pub IsRightOutput : Command → List ℕ → List (List ℕ) → Ending → Type 0
IsRightOutput c bytes ts e = Items (item_at c bytes) (WritesRight c) (EndsRight c) 0 ts e

abbrev pub IsRightFirstOutput : Command → List ℕ → List (List ℕ) → Type 0
IsRightFirstOutput c bytes ts = FirstItems (item_at c bytes) (WritesRight c) 0 ts

-- what may be asked for: the budgets and the numbers of parameters that the words allow, and for `share` an input
-- within its limit
abbrev pub MayBeAsked : Command → List ℕ → Type 0
MayBeAsked c = (way c).MayBeAsked

-- What the contracts of reading steps say: what was read and where it ends is what the definition gives, and a
-- refusal is the definition's fault.
use Rattle.std.specs.Prelude.{◌≡◌, ◌<◌, ◌≤◌, ℕ, List, length, Option, Some, None, IfSome, Result, Ok, Err}
use Rattle.pip_model.specs.Reading.{Fault, Syntax, Wide, Reads}
use Rattle.text_reading.specs.declared.fault.TextFault.{TextFault}
use Rattle.text_reading.specs.declared.fault.TextFault.TheVariants as fault

-- the definitions' word for a fault; want of memory has none
abbrev pub fault_of : TextFault → Option Fault
fault_of (fault.Syntax place) = Some (Syntax place)
fault_of (fault.Wide place) = Some (Wide place)
fault_of fault.WantOfMemory = None

-- a place alone: it lies behind the place before, within the bytes
abbrev pub IsPassed : {E : Type 0} → (E → Option Fault) → List ℕ → ℕ → Result ℕ E → Result ℕ Fault → Type 0
IsPassed fault bytes place (Ok after) model = (model ≡ Ok after) × (place < after) × (after ≤ length bytes)
IsPassed fault bytes place (Err e) model = IfSome (fault e) (λ f. model ≡ Err f)

-- a value, seen by `view`, and the place behind it
abbrev pub IsRead : {X Y E : Type 0} → (X → Y) → (E → Option Fault) → List ℕ → ℕ → Result (X × ℕ) E → Reads Y → Type 0
IsRead view fault bytes place (Ok x) model = (model ≡ Ok (view x.0, x.1)) × (place < x.1) × (x.1 ≤ length bytes)
IsRead view fault bytes place (Err e) model = IfSome (fault e) (λ f. model ≡ Err f)

-- the same of values of which there may be none
abbrev pub AreRead : {X Y E : Type 0} → (X → Y) → (E → Option Fault) → List ℕ → ℕ → Result (X × ℕ) E → Reads Y → Type 0
AreRead view fault bytes place (Ok x) model = (model ≡ Ok (view x.0, x.1)) × (place ≤ x.1) × (x.1 ≤ length bytes)
AreRead view fault bytes place (Err e) model = IfSome (fault e) (λ f. model ≡ Err f)

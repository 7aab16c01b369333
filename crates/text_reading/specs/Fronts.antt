-- A list that is being read.
use Rattle.std.specs.Prelude.{◌≡◌, ◌≤◌, ℕ, ℤ, List, ◌++◌, length, Vec, Result, Ok, Err, IfSome}
use Rattle.std.specs.declared.alloc.Global.{Global}
use Rattle.pip_model.specs.Reading.{Reads, ◌>>=◌, numbers}
use Rattle.text_reading.specs.Steps.{fault_of}
use Rattle.text_reading.specs.declared.fault.TextFault.{TextFault}

-- what is read, with these before it
abbrev pub with_front : {A : Type 0} → List A → Reads (List A) → Reads (List A)
with_front front read = read >>= λ x. Ok (front ++ x.0, x.1)

-- all of so many numbers but the last are read, which is read from the place on
abbrev pub LeavesLast : List ℕ → ℕ → ℕ → Result (Vec ℤ Global × ℕ) TextFault → Type 0
LeavesLast bytes count place (Ok x) = (with_front x.0.items (numbers bytes 1 x.1) ≡ numbers bytes count place) × (place ≤ x.1) × (x.1 ≤ length bytes)
LeavesLast bytes count place (Err e) = IfSome (fault_of e) (λ f. numbers bytes count place ≡ Err f)

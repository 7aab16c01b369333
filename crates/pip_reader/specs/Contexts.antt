-- A context's text: its next row, and what is found of it.
use Rattle.std.specs.Prelude.{ℕ, ◌+◌, ◌==◌, ℤ, pos, List, Option, Some, None, Result, Ok, Err, if◌then◌else◌}
use Rattle.pip_model.specs.declared.Kind.TheVariants.{RightParen, LeftRow}
use Rattle.pip_model.specs.declared.LimitKind.TheVariants.{ContextRows}
use Rattle.pip_model.specs.Limits.{most_context_rows}
use Rattle.pip_model.specs.Tokens.{token}
use Rattle.pip_model.specs.Reading.{Fault, Limit, ◌>>=◌, same_bracket, expect, row}
use Rattle.affine_forms.specs.Forms.{FormsOfWidth}

-- the next row of n numbers of a context in which so many may follow, none at its `)`
abbrev pub next_row : List ℕ → ℕ → ℕ → ℕ → Result (Option (List ℤ × ℕ)) Fault
next_row bytes n left place =
    if same_bracket (token bytes place).kind RightParen then Ok None else (if left == 0 then (do
      first ← expect bytes LeftRow place
      Err (Limit ContextRows (pos (most_context_rows + 1)))) else (do
        r ← row bytes n place
        Ok (Some r)))

-- the rows with the place behind them, or none
abbrev pub context_found : Option (FormsOfWidth × ℕ) → Option (List (List ℤ) × ℕ)
context_found None = None
context_found (Some x) = Some (x.0.forms, x.1)

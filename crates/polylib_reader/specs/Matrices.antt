-- The steps of reading two matrices.
use Rattle.std.specs.Prelude.{ℕ, ◌+◌, ◌-◌, ℤ, Bool, true, List, length, codes, Result, Ok}
use Rattle.pip_model.specs.declared.LimitKind.{LimitKind}
use Rattle.pip_model.specs.declared.LimitKind.TheVariants.{Rows, ContextRows, Columns, ContextColumns}
use Rattle.pip_model.specs.Limits.{most_unknowns, most_params, most_rows, most_context_rows}
use Rattle.pip_model.specs.Problem.{Problem}
use Rattle.pip_model.specs.Reading.{Fault, Reads, ◌>>=◌, within, no_big_parameter}
use Rattle.pip_model.specs.MatrixText.{word, matrix_number, is_equality, count_of, counted, matrix_rows, options}

-- whether the next row is an equality, and how many inequalities there are with it
abbrev pub row_head : List ℕ → LimitKind → ℕ → ℕ → ℕ → Reads (Bool × ℕ)
row_head bytes kind most count place = do
  first ← matrix_number bytes place
  equality ← is_equality (word bytes place).start first
  now ← counted kind most (count + count_of equality.0)
  Ok ((equality.0, now), equality.1)

-- a number from `low` to `high`
unfoldable pub size : List ℕ → LimitKind → ℕ → ℕ → ℕ → Reads ℕ
size bytes kind low high place = do
  n ← matrix_number bytes place
  within kind low high n

-- the number of parameters and the context's inequalities
abbrev pub context_matrix : List ℕ → Reads (ℕ × List (List ℤ))
context_matrix bytes = do
  rows ← size bytes ContextRows 0 most_context_rows 0
  columns ← size bytes ContextColumns 2 (most_params + 2) rows.1
  forms ← matrix_rows bytes ContextRows most_context_rows (columns.0 - 2 + 1) 0 rows.0 columns.1
  Ok ((columns.0 - 2, forms.0), forms.1)

-- the number of unknowns and the tableau's inequalities
abbrev pub constraint_matrix : List ℕ → ℕ → ℕ → Reads (ℕ × List (List ℤ))
constraint_matrix bytes params place = do
  rows ← size bytes Rows 0 most_rows place
  columns ← size bytes Columns (params + 3) (params + 2 + most_unknowns) rows.1
  forms ← matrix_rows bytes Rows most_rows (columns.0 - params - 2 + params + 1) 0 rows.0 columns.1
  Ok ((columns.0 - params - 2, forms.0), forms.1)

-- the problem that all the bytes spell
abbrev pub problem_by_steps : List ℕ → Result Problem Fault
problem_by_steps bytes = do
  context ← context_matrix bytes
  big ← matrix_number bytes context.1
  place ← no_big_parameter big
  constraints ← constraint_matrix bytes context.0.0 place
  integer ← options bytes (length bytes) true constraints.1
  Ok (record {
    unknowns = constraints.0.0;
    params = context.0.0;
    rows = constraints.0.1;
    context = context.0.1;
    integer = integer;
    comment = codes "()";
  })

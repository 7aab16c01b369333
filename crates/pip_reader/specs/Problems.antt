-- A problem's text in four steps: the brackets, what stands before the rows, and the rows.
use Rattle.std.specs.Prelude.{ℕ, ◌+◌, ℤ, List, Ok}
use Rattle.pip_model.specs.declared.Kind.TheVariants.{LeftParen, RightParen}
use Rattle.pip_model.specs.Problem.{Problem}
use Rattle.pip_model.specs.Reading.{Reads, ◌>>=◌, expect, group, block}
use Rattle.pip_reader.specs.declared.header.Sizes.{Sizes}
use Rattle.pip_reader.specs.declared.problem.Head.{Head}
use Rattle.pip_reader.specs.declared.problem.Blocks.{Blocks}
use Rattle.pip_reader.specs.declared.problem.ProblemParts.{ProblemParts}
use Rattle.pip_reader.specs.Rows.{form_block}
use Rattle.pip_reader.specs.Header.{sizes, mode}

-- the problem of these parts
abbrev pub problem_of : ProblemParts → Problem
problem_of p =
    record {
      unknowns = p.head.sizes.unknowns;
      params = p.head.sizes.params;
      rows = p.blocks.rows.items;
      context = p.blocks.context.items;
      integer = p.head.integer;
      comment = p.head.comment;
    }

-- the comment, the sizes and the mode
abbrev pub head_of : List ℕ → ℕ → Reads Head
head_of bytes place = do
  comment ← group bytes place
  s ← sizes bytes comment.1
  integer ← mode bytes s.1
  Ok (record { comment = comment.0; sizes = s.0; integer = integer.0 }, integer.1)

-- the forms of the rows, and those of the context
abbrev pub blocks_of : Blocks → List (List ℤ) × List (List ℤ)
blocks_of b = (b.rows.items, b.context.items)

abbrev pub blocks_by_sizes : List ℕ → Sizes → ℕ → Reads (List (List ℤ) × List (List ℤ))
blocks_by_sizes bytes s place = do
  rows ← form_block bytes s.rows (s.unknowns + 1 + s.params) s.unknowns place
  context ← block bytes s.context_rows (s.params + 1) rows.1
  Ok ((rows.0, context.0), context.1)

abbrev pub problem_by_steps : List ℕ → ℕ → Reads Problem
problem_by_steps bytes place = do
  first ← expect bytes LeftParen place
  head ← head_of bytes first
  blocks ← blocks_by_sizes bytes head.0.sizes head.1
  after ← expect bytes RightParen blocks.1
  Ok (
    record {
      unknowns = head.0.sizes.unknowns;
      params = head.0.sizes.params;
      rows = blocks.0.0;
      context = blocks.0.1;
      integer = head.0.integer;
      comment = head.0.comment;
    },
    after,
  )

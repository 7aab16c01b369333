-- The items that commands read: a problem, an answer, and what consists of several parts, one after the other.
use Rattle.std.specs.Prelude.{ℕ, ℤ, List, Option, Some, None, Result, Ok, Err, if◌then◌else◌}
use Rattle.pip_model.specs.Problem.{Problem}
use Rattle.pip_model.specs.Tree.{Answer}
use Rattle.pip_model.specs.Reading.{◌>>=◌, ◌>>◌}
use Rattle.pip_model.specs.NativeText.{read_native}
use Rattle.pip_model.specs.MatrixText.{read_matrices}
use Rattle.pip_model.specs.TreeText.{read_answer, Commented}
use Rattle.pip_model.specs.ContextText.{read_context}
use Rattle.pip_model.specs.Certificate.{Certificate, read_certificate}
use Rattle.program_model.specs.Endings.{Ending, rational_certificate}
use Rattle.program_model.specs.Items.{ItemAt, or_ending, needed, one_item}

-- ---- problems, and answers over m parameters

abbrev pub problem_item : List ℕ → ℕ → ItemAt Problem
problem_item bytes place = or_ending (read_native bytes place)

-- the one problem of the matrices
abbrev pub matrix_item : List ℕ → ℕ → ItemAt Problem
matrix_item bytes place = one_item (or_ending (read_matrices bytes)) place

abbrev pub answer_item : List ℕ → ℕ → ℕ → ItemAt Commented
answer_item bytes m place = or_ending (read_answer bytes place m)

abbrev pub needed_answer : List ℕ → ℕ → ℕ → Result (Commented × ℕ) Ending
needed_answer bytes m place = do
  answer_here ← answer_item bytes m place
  needed bytes answer_here

-- ---- a problem, an answer over its parameters and a certificate

pub record Triple : Type 0 where
  pub problem : Problem
  pub answer : Answer
  pub certificate : Certificate

-- certificates are of integer problems alone
abbrev pub is_certifiable : Problem → Result (Unit {0}) Ending
is_certifiable P = if P.integer then Ok tt else Err rational_certificate

abbrev pub rest_of_triple : List ℕ → Problem × ℕ → ItemAt Triple
rest_of_triple bytes p = do
  is_certifiable p.0
  s ← needed_answer bytes p.0.params p.1
  certified ← or_ending (read_certificate bytes s.1)
  c ← needed bytes certified
  Ok (Some (record { problem = p.0; answer = s.0.answer; certificate = c.0 }, c.1))

abbrev pub triple_by : List ℕ → Option (Problem × ℕ) → ItemAt Triple
triple_by bytes None = Ok None
triple_by bytes (Some p) = rest_of_triple bytes p

abbrev pub triple : List ℕ → ℕ → ItemAt Triple
triple bytes place = do
  p ← problem_item bytes place
  triple_by bytes p

-- ---- a context over m parameters and an answer

pub record Pair : Type 0 where
  pub rows : List (List ℤ)
  pub first : Commented

abbrev pub pair_by : List ℕ → ℕ → Option (List (List ℤ) × ℕ) → ItemAt Pair
pair_by bytes m None = Ok None
pair_by bytes m (Some k) = do
  a ← needed_answer bytes m k.1
  Ok (Some (record { rows = k.0; first = a.0 }, a.1))

abbrev pub pair : List ℕ → ℕ → ℕ → ItemAt Pair
pair bytes m place = do
  k ← or_ending (read_context bytes place m)
  pair_by bytes m k

-- ---- a context over m parameters and two answers

pub record Trio : Type 0 where
  pub rows : List (List ℤ)
  pub first : Commented
  pub second : Commented

abbrev pub trio_by : List ℕ → ℕ → Option (List (List ℤ) × ℕ) → ItemAt Trio
trio_by bytes m None = Ok None
trio_by bytes m (Some k) = do
  a ← needed_answer bytes m k.1
  b ← needed_answer bytes m a.1
  Ok (Some (record { rows = k.0; first = a.0; second = b.0 }, b.1))

abbrev pub trio : List ℕ → ℕ → ℕ → ItemAt Trio
trio bytes m place = do
  k ← or_ending (read_context bytes place m)
  trio_by bytes m k

-- Reading a problem in matrices by steps is reading it at once.
use Rattle.polylib_reader.proofs.Words.{◌≡◌, ◌∙◌, refl, ap, ℕ, ℤ, Bool, true, List, length, Ok, Err, Result, Fault, ◌>>=◌, read_matrices, matrix_number, options, bind_assoc, codes, no_big_parameter}
use Rattle.pip_model.specs.Problem.{Problem}
use Rattle.pip_model.specs.WellFormed.{IsProblem}
use Rattle.text_laws.proofs.ReadMatrices.{read_matrices-reads}
use Rattle.polylib_reader.specs.Matrices.{size, problem_by_steps, context_matrix, constraint_matrix}

pub read_matrices_by_steps : (bytes : List ℕ) → read_matrices bytes ≡ problem_by_steps bytes
unfolding size
read_matrices_by_steps bytes = simp bind_assoc refl

-- a problem that is read by steps is within the limits
pub within_limits : (bytes : List ℕ) (P : Problem) → problem_by_steps bytes ≡ Ok P → IsProblem P
within_limits bytes P e = let read = rw (read_matrices_by_steps bytes, e) at (read_matrices-reads bytes) in read.0

-- ---- the steps one by one: what each part is followed by

abbrev Sized : Type 0
Sized = (ℕ × List (List ℤ)) × ℕ

abbrev pub made : Sized → Sized → Bool → Problem
made context constraints integer = record {
  unknowns = constraints.0.0;
  params = context.0.0;
  rows = constraints.0.1;
  context = context.0.1;
  integer = integer;
  comment = codes "()";
}

module _ (bytes : List ℕ) where
  abbrev behind_constraints : Sized → Sized → Result Problem Fault
  behind_constraints context constraints = options bytes (length bytes) true constraints.1 >>= λ integer. Ok (made context constraints integer)

  abbrev behind_place : Sized → ℕ → Result Problem Fault
  behind_place context place = constraint_matrix bytes context.0.0 place >>= λ constraints. behind_constraints context constraints

  abbrev behind_number : Sized → ℤ × ℕ → Result Problem Fault
  behind_number context big = no_big_parameter big >>= λ place. behind_place context place

  abbrev behind_context : Sized → Result Problem Fault
  behind_context context = matrix_number bytes context.1 >>= λ big. behind_number context big

  pub context_refused : (f : Fault) → context_matrix bytes ≡ Err f → read_matrices bytes ≡ Err f
  context_refused f e = read_matrices_by_steps bytes ∙ ap (λ r. r >>= behind_context) e

  module _ (context : Sized) (first : context_matrix bytes ≡ Ok context) where
    context_read : read_matrices bytes ≡ behind_context context
    context_read = read_matrices_by_steps bytes ∙ ap (λ r. r >>= behind_context) first

    pub number_refused : (f : Fault) → matrix_number bytes context.1 ≡ Err f → read_matrices bytes ≡ Err f
    number_refused f e = context_read ∙ ap (λ r. r >>= behind_number context) e

    module _ (big : ℤ × ℕ) (second : matrix_number bytes context.1 ≡ Ok big) where
      number_read : read_matrices bytes ≡ behind_number context big
      number_read = context_read ∙ ap (λ r. r >>= behind_number context) second

      pub parameter_refused : (f : Fault) → no_big_parameter big ≡ Err f → read_matrices bytes ≡ Err f
      parameter_refused f e = number_read ∙ ap (λ r. r >>= behind_place context) e

      module _ (place : ℕ) (third : no_big_parameter big ≡ Ok place) where
        place_read : read_matrices bytes ≡ behind_place context place
        place_read = number_read ∙ ap (λ r. r >>= behind_place context) third

        pub constraints_refused : (f : Fault) → constraint_matrix bytes context.0.0 place ≡ Err f → read_matrices bytes ≡ Err f
        constraints_refused f e = place_read ∙ ap (λ r. r >>= behind_constraints context) e

        module _ (constraints : Sized) (fourth : constraint_matrix bytes context.0.0 place ≡ Ok constraints) where
          constraints_read : read_matrices bytes ≡ behind_constraints context constraints
          constraints_read = place_read ∙ ap (λ r. r >>= behind_constraints context) fourth

          pub options_refused : (f : Fault) → options bytes (length bytes) true constraints.1 ≡ Err f → read_matrices bytes ≡ Err f
          options_refused f e = constraints_read ∙ ap (λ r. r >>= λ integer. Ok (made context constraints integer)) e

          pub problem_made : (integer : Bool) → options bytes (length bytes) true constraints.1 ≡ Ok integer → read_matrices bytes ≡ Ok (made context constraints integer)
          problem_made integer e = constraints_read ∙ ap (λ r. r >>= λ integer. Ok (made context constraints integer)) e

-- Reading a problem by steps is reading it at once.
use Rattle.pip_reader.proofs.Words.{◌≡◌, ◌≤◌, length, ℕ, List, Ok, problem_at, IsGroup, problem_at-reads, problem_by_steps, bind_assoc}
use Rattle.pip_model.specs.Problem.{Problem}
use Rattle.pip_model.specs.WellFormed.{IsProblem}
use Rattle.pip_reader.specs.Header.{size}

pub problem_is_by_steps : (bytes : List ℕ) (place : ℕ) → problem_at bytes place ≡ problem_by_steps bytes place
unfolding size
problem_is_by_steps bytes place = simp bind_assoc

-- what is read by steps is a problem, and its comment a group
pub whole : (bytes : List ℕ) (place : ℕ) (P : Problem) (after : ℕ) → place ≤ length bytes → problem_by_steps bytes place ≡ Ok (P, after) → IsProblem P × IsGroup P.comment
whole bytes place P after h e =
    let read = rw (problem_is_by_steps bytes place, e) at (problem_at-reads bytes place h) in
    (read.value.0, read.value.1)

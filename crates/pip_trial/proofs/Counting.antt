-- What is counted of the run of a problem, and the room for it.
use Rattle.pip_trial.proofs.Words.{◌≡◌, refl, ℕ, ◌+◌, ◌*◌, ◌-◌, ◌<◌, ◌≤◌, ◌^◌, suc, arith, lit<, pow-le-pow_right, Ok, Problem, Answer, Void, Solved, size, nesting, Tally, after_draws, draws_of, problem_drawn, tally_outcome, tally, trial_budget, HasRoom, answer_size}
use Rattle.pip_model.specs.Run.{Outcome, Done, Refused, answered, solve}
use Rattle.run_laws.proofs.Budgets.{solve-nested}
use Rattle.pip_trial.proofs.Rooms.{less_room, room_after, size-nesting}

-- a tree of the nesting 100 has less than 2 ^ 101 nodes
answer-size : (P : Problem) (a : Answer) (o : Outcome Answer) → solve trial_budget P ≡ o → answered o ≡ Ok a → answer_size a ≤ 2 ^ 101
answer-size P Void o e h = omega arith
answer-size P (Solved t) (Done x w) e h =
    let done : solve trial_budget P ≡ Done (Solved t) w = cc in
    let nested = solve-nested P trial_budget t w done in
    let most : 2 ^ (nesting t + 1) ≤ 2 ^ 101 = pow-le-pow_right {n = 2} (lit< tt) {i = nesting t + 1} {j = 101} (omega arith) in
    omega (arith, size-nesting t)
answer-size P (Solved t) (Refused f w) e h = cc

pub answer_room : (P : Problem) (a : Answer) (n : Tally) → answered (solve trial_budget P) ≡ Ok a → HasRoom (2 ^ 101) n → HasRoom (answer_size a) n
answer_room P a n e r = less_room (answer_size a) (2 ^ 101) n (answer-size P a (solve trial_budget P) refl e) r

-- the room that a problem leaves
outcome_room : (P : Problem) (k : ℕ) (n : Tally) (o : Outcome Answer) → solve trial_budget P ≡ o → HasRoom (2 ^ 101 + k) n → HasRoom k (tally_outcome o n)
outcome_room P k n (Done Void w) e r = less_room k (2 ^ 101 + k) n (omega arith) r
outcome_room P k n (Done (Solved t) w) e r =
    room_after t k n (less_room (size t + k) (2 ^ 101 + k) n (let small = answer-size P (Solved t) (Done (Solved t) w) e refl in omega arith) r)
outcome_room P k n (Refused f w) e r = record { lists = omega arith; bottoms = omega arith; quotients = omega arith; refused = omega arith }

pub room_left : (P : Problem) (k : ℕ) (n : Tally) → HasRoom (2 ^ 101 + k) n → HasRoom k (tally_outcome (solve trial_budget P) n)
room_left P k n r = outcome_room P k n (solve trial_budget P) refl r

-- after i of count problems, from the state s on: with those that are left the tally becomes whole, and it has their room
pub record Counting (count i s : ℕ) (n whole : Tally) : Type 0 where
  pub left : tally (count - i) s n ≡ whole
  pub room : HasRoom ((count - i) * 2 ^ 101) n

pub counting_more : (count i s t : ℕ) (n k whole : Tally) → i < count → t ≡ after_draws (draws_of s) s → k ≡ tally_outcome (solve trial_budget (problem_drawn s)) n
    → Counting count i s n whole → Counting count (i + 1) t k whole
counting_more count i s t n k whole h state counted was =
    let left : count - i ≡ suc (count - (i + 1)) = omega arith in
    record {
      left = rw (state, counted) (rw left at was.left);
      room = rw counted (room_left (problem_drawn s) ((count - (i + 1)) * 2 ^ 101) n (less_room (2 ^ 101 + (count - (i + 1)) * 2 ^ 101) ((count - i) * 2 ^ 101) n (omega arith) was.room));
    }

-- A tree is counted within the room for its nodes, of which there are at most two to the power of its nesting and one.
use Rattle.pip_trial.proofs.Words.{◌≡◌, ℕ, ◌+◌, ◌<◌, ◌≤◌, ◌^◌, max, suc, arith, lit<, pow-suc, pow-le-pow_right, Tree, Bottom, Leaf, If, NewParm, size, nesting, Tally, tally_tree, HasRoom}

pub less_room : (j k : ℕ) (n : Tally) → j ≤ k → HasRoom k n → HasRoom j n
less_room j k n h r = record { lists = omega arith; bottoms = omega arith; quotients = omega arith; refused = omega arith }

pub room_after : (t : Tree) (k : ℕ) (n : Tally) → HasRoom (size t + k) n → HasRoom k (tally_tree t n)
room_after Bottom k n r = record { lists = omega arith; bottoms = omega arith; quotients = omega arith; refused = omega arith }
room_after (Leaf cs) k n r = record { lists = omega arith; bottoms = omega arith; quotients = omega arith; refused = omega arith }
room_after (If v a b) k n r = room_after b k (tally_tree a n) (room_after a (size b + k) n (less_room (size a + (size b + k)) (1 + size a + size b + k) n (omega arith) r))
room_after (NewParm v d a) k n r =
    room_after a k (record n { quotients = n.quotients + 1 }) (record { lists = omega arith; bottoms = omega arith; quotients = omega arith; refused = omega arith })

-- the same of what is counted after a tree
pub room_behind : (a b : Tree) (n k : Tally) → k ≡ tally_tree a n → HasRoom (size a + size b) n → HasRoom (size b) k
room_behind a b n k e r = rw e (room_after a (size b) n r)

pub size-nesting : (t : Tree) → size t < 2 ^ (nesting t + 1)
size-nesting Bottom = omega arith
size-nesting (Leaf cs) = omega arith
size-nesting (If v a b) =
    let x = size-nesting a in
    let y = size-nesting b in
    let most = max (nesting a) (nesting b) in
    let left : 2 ^ (nesting a + 1) ≤ 2 ^ (most + 1) = pow-le-pow_right (lit< tt) (omega arith) in
    let right : 2 ^ (nesting b + 1) ≤ 2 ^ (most + 1) = pow-le-pow_right (lit< tt) (omega arith) in
    let e : 1 + most + 1 ≡ suc (most + 1) = omega arith in
    rw (e, pow-suc) (omega arith)
size-nesting (NewParm v d a) =
    let x = size-nesting a in
    let e : 1 + nesting a + 1 ≡ suc (nesting a + 1) = omega arith in
    rw (e, pow-suc) (omega arith)

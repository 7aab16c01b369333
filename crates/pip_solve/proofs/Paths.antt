-- The rows and the path below a new parameter.
use Rattle.pip_solve.proofs.Words.{◌≡◌, sym, subst, ap, ◌+◌, ◌-◌, ◌≤◌, ℤ, pos, List, [], ◌∷◌, ◌++◌, length, map, true, append_assoc, arith, get_or-append_seam, All-from_recursion, tighten, started, start, Quotient, Problem, most_nesting, IsRow, IsProblem, TableauRows, Scope, size, quotient_at, Path, IsNode, Waiting, Waits, IsRunning, Frame, All}
use Rattle.run_laws.proofs.Started.{started_formed}
use Rattle.node_turn.proofs.Pointing.{length_start}
use Rattle.pip_solve.specs.Starts.{IsFirstPath}

-- the quotient that was added last
pub quotient_at-added : (q : Scope) (k : Quotient) → quotient_at (record q { quotients = q.quotients ++ k ∷ [] }) (size q) ≡ k
quotient_at-added q k =
    let e : q.params + length q.quotients - q.params ≡ length q.quotients = omega arith in
    rw e (get_or-append_seam q.quotients k [] (record { form = []; den = pos 1 }))

pub two_more : (ks : List (List ℤ)) (a b : List ℤ) → ks ++ a ∷ [] ++ b ∷ [] ≡ ks ++ a ∷ b ∷ []
two_more ks a b = append_assoc ks (a ∷ []) (b ∷ [])

-- the first node of a problem
pub starts : (P : Problem) (t : TableauRows) (path : Path) → IsProblem P → t ≡ record { unknowns = P.unknowns; width = P.params; rows = start P.unknowns P.params (started P.integer P.rows) } → IsFirstPath P path → IsNode t path
starts P t path formed rows first =
    let size = ap (λ (q : Scope). size q) first.quotients in
    let params = ap (λ (q : Scope). q.params) first.quotients in
    rw rows record {
      some_unknowns = formed.some_unknowns;
      few_unknowns = formed.few_unknowns;
      rows = length_start P.unknowns P.params (started P.integer P.rows);
      scope = omega (arith, size);
      context = first.width;
      few_params = omega (arith, params, formed.few_params);
      few_quotients = omega (arith, ap (λ (q : Scope). length q.quotients) first.quotients);
      shallow = omega (arith, first.depth);
    }

-- the node is in hand, and nothing waits
pub starts_running : (P : Problem) (t : TableauRows) (path : Path) (pending : Waiting) → IsProblem P → t ≡ record { unknowns = P.unknowns; width = P.params; rows = start P.unknowns P.params (started P.integer P.rows) } → IsFirstPath P path → pending.frames ≡ [] → pending.most ≤ most_nesting → IsRunning t path pending
starts_running P t path pending formed rows first none few =
    let params = ap (λ (q : Scope). q.params) first.quotients in
    record {
      node = starts P t path formed rows first;
      depth = omega (arith, first.depth, (ap (λ (fs : List Frame). length fs) none));
      nested = omega (arith, first.depth);
      few = few;
      waits = subst (Waits pending.most t.width path) (sym none) (omega (arith, (ap (λ (x : TableauRows). x.width) rows), params));
    }

-- tightened rows are as wide as a problem's rows
pub tightened_wide : (P : Problem) → IsProblem P → All (λ form. length form ≡ P.unknowns + P.params + 1) (map tighten P.rows)
tightened_wide P formed k d h = (All-from_recursion (IsRow (P.unknowns + P.params)) (map tighten P.rows) (started_formed (P.unknowns + P.params) true P.rows formed.rows) k d h).wide

use Rattle.pip_solve.proofs.Words.{arith, ap, ◌≡◌, ℕ, ◌<◌, List, length, Waiting}
use Rattle.std.proofs.Common.{reverse}
use Rattle.std.proofs.lemmas.List.{length-reverse}
use Rattle.pip_solve.specs.declared.pending.Frame.{Frame}
use Rattle.pip_solve.proofs.pending.Pending.push.Goals as goal

few : (p : Waiting) (items : List Frame) (most : ℕ) → record { frames = reverse items; most = most } ≡ p → length p.frames < p.most → length items < most
few p items most e lt = omega (arith, ap (λ (q : Waiting). length q.frames) e, ap (λ (q : Waiting). q.most) e, length-reverse items)

pub overflow_sub-self-inside : goal.overflow_sub-self-inside
overflow_sub-self-inside c = omega (arith, few c.args.self.now c.self.inside.stack.items c.self.inside.most c.self.view_is c.requires)

pub overflow_sub-self-inside-2 : goal.overflow_sub-self-inside-2
overflow_sub-self-inside-2 c = omega (arith, few c.args.self.now c.self.inside.stack.items c.self.inside.most c.self.view_is c.requires, c.len.ensures)

pub unwrap-requires : goal.unwrap-requires
unwrap-requires c = c.push.ensures.succeeds (omega (arith, few c.args.self.now c.self.inside.stack.items c.self.inside.most c.self.view_is c.requires, c.self.invariant.1))

pub invariant_of-self : goal.invariant_of-self
invariant_of-self c =
    let room = few c.args.self.now c.self.inside.stack.items c.self.inside.most c.self.view_is c.requires in
    (omega (arith, room, c.len.ensures, c.push.ensures.upper_bound, c.truncate.ensures.len), omega (arith, c.self.invariant.1, c.push.ensures.capacity))

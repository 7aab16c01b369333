use Rattle.node_rows.proofs.Words.{rules, arith, ap, ◌≡◌, ◌∙◌, refl, subst, sym, ◌+◌, length, All, List, ℤ, TableauRows}
use Rattle.node_rows.proofs.Pivoting.{start_long, start_rows}
use Rattle.node_rows.proofs.node_rows.NodeRows.restart_by_forms.Goals as goal

pub measure-requires : goal.measure-requires
measure-requires c = subst (λ (s : TableauRows). length s.rows ≡ s.unknowns) (sym c.in_ok-restart_rows.ensures.ok) (start_long c.reshape.new.self.unknowns c.reshape.new.self.width)

pub returns-in-Some-clause-ok : goal.returns-in-Some-clause-ok
returns-in-Some-clause-ok c =
    let s = c.reshape.new.self in
    let forms = c.args.forms.now in
    let u : s.unknowns ≡ c.args.self.now.unknowns = search rules in
    let w : s.width ≡ c.args.self.now.width = search rules in
    let wide : All (λ (f : List ℤ). length f ≡ s.unknowns + s.width + 1) forms = rw (u, w) c.requires.wide in
    let made = start_rows c.restart_rows.new.rows c.in-Some.basis forms c.in_ok-copies.copies s c.in_ok-restart_rows.ensures.ok c.in-Some.ensures.basis (search rules) wide in
    made ∙ rw (u, w) refl

pub invariant_of-self : goal.invariant_of-self
invariant_of-self c = (λ k d lt. absurd (omega (arith, lt, ap length c.clear.ensures)), λ k d lt. absurd (omega (arith, lt, ap length c.clear.ensures)))

pub invariant_of-self-in_err-restart_rows : goal.invariant_of-self-in_err-restart_rows
invariant_of-self-in_err-restart_rows c = (λ k d lt. absurd (omega (arith, lt, ap length c.clear.ensures)), λ k d lt. absurd (omega (arith, lt, ap length c.clear.ensures)))

pub invariant_of-self-in-None : goal.invariant_of-self-in-None
invariant_of-self-in-None c = (λ k d lt. absurd (omega (arith, lt, ap length c.clear.ensures)), λ k d lt. absurd (omega (arith, lt, ap length c.clear.ensures)))

pub invariant_of-self-in-None-2 : goal.invariant_of-self-in-None-2
invariant_of-self-in-None-2 c = (λ k d lt. absurd (omega (arith, lt, ap length c.clear.ensures)), λ k d lt. absurd (omega (arith, lt, ap length c.clear.ensures)))

pub restart_rows-requires : goal.restart_rows-requires
restart_rows-requires c = λ k d lt. absurd (omega (arith, lt))

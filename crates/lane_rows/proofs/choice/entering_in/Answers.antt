use Rattle.lane_rows.proofs.Words.{rules, ◌≡◌, ◌<◌, ap, sym, pos, arith, ℕ, List, true, length, list_all, is_nonneg, entering_of, row_over, numbers_of, undivided_in}
use Rattle.pip_model.specs.Forms.{negate}
use Rattle.lane_rows.proofs.Choosing.{none_enters}
use Rattle.lane_rows.proofs.choice.entering_in.Goals as goal

pub returns-then-not-is_below-clause-value : goal.returns-then-not-is_below-clause-value
returns-then-not-is_below-clause-value c =
    let wide : c.args.n < length c.args.p.now = omega (arith, c.requires.pivot.long, c.requires.few) in
    let none : list_all is_nonneg (negate c.args.p.now) ≡ true = search rules in
    ap (λ (ks : List ℕ). entering_of (undivided_in c.args.n (pos 1) c.args.n c.args.rows.now) (row_over c.args.n (pos 1) (numbers_of c.args.n c.args.p.now)) ks) (sym (none_enters c.args.n c.args.p.now wide none))

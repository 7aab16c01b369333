use Rattle.tableau.proofs.Words.{take-map, AreLent, lent_row, lent_rows, ◌≡◌, ◌∙◌, ap, sym, subst, arith, ℕ, List, ◌++◌, take, Row}
use Rattle.tableau.proofs.KeptParts.{kept_front}
use Rattle.tableau.specs.KeptRows.{KeptRows}
use Rattle.tableau.specs.declared.kept.Kept.{Kept}
use Rattle.tableau.proofs.flat_rows.FlatRows.front.Goals as goal
use Rattle.tableau.proofs.flat_rows.FlatRows.front.Goals.{then-count-gt0, else-count-gt0}

pub copy_rows-requires-clause-lent : goal.copy_rows-requires-clause-lent
copy_rows-requires-clause-lent c =
    let v = c.lent.result.0 in
    subst (λ (ks : List Kept). AreLent c.lent.result.0 ks) (sym c.split_at.ensures.front) (kept_front v.unknowns v.width v.numbers.now c.lent.result.1.now c.args.count c.lent.ensures.lent)

pub returns : goal.returns
returns c =
    let n = ap (λ (t : KeptRows). t.unknowns) c.self.view_is in
    let w = ap (λ (t : KeptRows). t.width) c.self.view_is in
    elim c.if-count-gt0.branch [
      | then-count-gt0 b ↦
          let v = b.lent.result.0 in
          let made = b.rows-is ∙ b.copy_rows.ensures in
          record {
            unknowns = ap (λ (t : KeptRows). t.unknowns) made ∙ c.in_ok-rows.ensures.empty.unknowns ∙ n;
            width = ap (λ (t : KeptRows). t.width) made ∙ c.in_ok-rows.ensures.empty.width ∙ w;
            rows = ap (λ (t : KeptRows). t.rows) made
                ∙ ap (λ (rs : List Row). rs ++ lent_rows b.lent.result.0 b.split_at.result.0.now) c.in_ok-rows.ensures.empty.rows
                ∙ ap (lent_rows v) b.split_at.ensures.front ∙ sym (take-map (lent_row v) c.args.count b.lent.result.1.now) ∙ ap (take c.args.count) b.lent.ensures.rows;
          }
      | else-count-gt0 b ↦
          let none : c.args.count ≡ 0 = omega (arith, b.if-count-gt0.false) in
          record {
            unknowns = ap (λ (t : KeptRows). t.unknowns) b.rows-is ∙ c.in_ok-rows.ensures.empty.unknowns ∙ n;
            width = ap (λ (t : KeptRows). t.width) b.rows-is ∙ c.in_ok-rows.ensures.empty.width ∙ w;
            rows = ap (λ (t : KeptRows). t.rows) b.rows-is ∙ c.in_ok-rows.ensures.empty.rows ∙ sym (ap (λ (k : ℕ). take k c.args.self.now.rows) none);
          }
    ]

use Rattle.tableau.proofs.Words.{rules, ◌≡◌, ◌≤◌, ◌∙◌, ap, sym, length, subst, length-map, KeptRows, row_kept, rows_kept}
use Rattle.tableau.proofs.KeptParts.{kept_flat}
use Rattle.tableau.proofs.flat_rows.FlatRows.lent.Goals as goal

pub returns : goal.returns
returns c =
    let s = c.self.inside in
    let many : length (rows_kept s.unknowns s.width s.numbers.items s.kept.items) ≡ length s.kept.items = length-map s.kept.items (row_kept s.unknowns s.width s.numbers.items) in
    let few : length (rows_kept s.unknowns s.width s.numbers.items s.kept.items) ≤ s.most = simp length-map c.self.invariant.1.few in
    record {
      over = search rules;
      lent = rw (c.as_slice.ensures.value, c.as_slice-2.ensures.value) (kept_flat s.unknowns s.width s.numbers.items s.kept.items c.self.invariant.0);
      rows = search rules;
      count = ap length c.as_slice-2.ensures.value ∙ sym many ∙ ap (λ (t : KeptRows). length t.rows) c.self.view_is;
      few = subst (λ (t : KeptRows). length t.rows ≤ t.most) c.self.view_is few;
    }

use Rattle.kept_run.proofs.Words.{rules, ◌≡◌, ◌∙◌, ap, subst, ℕ, ◌+◌, ◌<◌, List, length, map, get_or, drop, true, flat_map, get_or_default_zero, all_fit, Row, row_at, eliminated, eliminated_listed, TableauRows, IsTurned}
use Rattle.run_laws.proofs.Lengths.{length_map}
use Rattle.kept_run.proofs.GoingFurther.{turned_at}
use Rattle.kept_run.proofs.further.turn_by_all.Goals as goal

pub loop-i-preserved : goal.loop-i-preserved
loop-i-preserved c =
    let ps = c.args.m.now.pivots.rows in
    let cs = c.args.m.now.columns.items in
    let R = c.loop-i.rows.rows in
    let h : c.loop-i.i < length c.args.m.now.columns.items = search rules in
    let column : c.index.result.now ≡ get_or c.args.m.now.columns.items c.loop-i.i 0 = c.index.ensures ∙ get_or_default_zero c.args.m.now.columns.items c.loop-i.i c.index.result.now h in
    let made = c.eliminate.ensures.short (search rules) in
    let rows : c.eliminate.new.self.rows ≡ map (eliminated (row_at c.args.m.now.pivots.rows c.loop-i.i) (get_or c.args.m.now.columns.items c.loop-i.i 0)) c.loop-i.rows.rows
    = ap (λ (s : TableauRows). s.rows) made ∙ ap (λ (k : ℕ). map (eliminated (row_at c.args.m.now.pivots.rows c.loop-i.i) k) c.loop-i.rows.rows) column in
    let fit : all_fit (flat_map (eliminated_listed (row_at c.args.m.now.pivots.rows c.loop-i.i) (get_or c.args.m.now.columns.items c.loop-i.i 0)) c.loop-i.rows.rows) ≡ true
    = subst (λ (k : ℕ). all_fit (flat_map (eliminated_listed (row_at c.args.m.now.pivots.rows c.loop-i.i) k) c.loop-i.rows.rows) ≡ true) column c.eliminate.ensures.listed in
    record {
      unknowns = ap (λ (s : TableauRows). s.unknowns) made ∙ c.loop-i.invariant.unknowns;
      number = ap length rows ∙ length_map (eliminated (row_at ps c.loop-i.i) (get_or cs c.loop-i.i 0)) R ∙ c.loop-i.invariant.number;
      turned = λ now is. c.loop-i.invariant.turned now (turned_at ps cs c.loop-i.i R now c.requires.formed.lengths h fit
          (subst (λ (l : List Row). IsTurned (drop (c.loop-i.i + 1) c.args.m.now.pivots.rows) (drop (c.loop-i.i + 1) c.args.m.now.columns.items) l now) rows is));
    }

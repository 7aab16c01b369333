use Rattle.pip_solve.proofs.Words.{rules, ap, List, ℤ, ◌≡◌, ◌∙◌, map, widen, row_at, widened, get_or-map, form_row, []}
use Rattle.pip_model.specs.Cuts as cuts
use Rattle.gomory_cut.proofs.Residues.{widened_free, widened_residue}
use Rattle.pip_solve.proofs.node.cut_made_below.Goals as goal

pub parametric_cut_by-requires-clause-residue : goal.parametric_cut_by-requires-clause-residue
parametric_cut_by-requires-clause-residue c =
    let rows : c.widen_params.new.self.rows ≡ map widened c.args.rows.now.rows = search rules in
    let here = get_or-map widened c.args.rows.now.rows c.args.i (form_row 0 []) (form_row 0 []) c.requires.within in
    let row : row_at c.widen_params.new.self.rows c.args.i ≡ widened (row_at c.args.rows.now.rows c.args.i) = cc in
    let made : c.widen.new.self ≡ widen 1 c.args.residue.now = search rules in
    let same : widen 1 c.args.residue.now ≡ widen 1 (cuts.residue_of (row_at c.args.rows.now.rows c.args.i)).form = ap (λ (g : List ℤ). widen 1 g) c.requires.residue in
    let on = widened_residue (row_at c.args.rows.now.rows c.args.i) c.args.rows.now.width c.requires.row.constant c.requires.row.positive in
    rw row (made ∙ same ∙ on)

pub parametric_cut_by-requires-clause-free : goal.parametric_cut_by-requires-clause-free
parametric_cut_by-requires-clause-free c =
    let made : c.widen.new.self ≡ widen 1 c.args.residue.now = search rules in
    let same : widen 1 c.args.residue.now ≡ widen 1 (cuts.residue_of (row_at c.args.rows.now.rows c.args.i)).form = ap (λ (g : List ℤ). widen 1 g) c.requires.residue in
    let on = widened_residue (row_at c.args.rows.now.rows c.args.i) c.args.rows.now.width c.requires.row.constant c.requires.row.positive in
    let place : c.width-place.result ≡ c.args.rows.now.width = search rules in
    let free = widened_free (row_at c.args.rows.now.rows c.args.i) c.args.rows.now.width c.requires.row.constant c.requires.row.positive in
    rw (made ∙ same ∙ on, place) free

pub returns : goal.returns
returns c =
    let rows : c.widen_params.new.self.rows ≡ map widened c.args.rows.now.rows = search rules in
    let here = get_or-map widened c.args.rows.now.rows c.args.i (form_row 0 []) (form_row 0 []) c.requires.within in
    let row : row_at c.widen_params.new.self.rows c.args.i ≡ widened (row_at c.args.rows.now.rows c.args.i) = cc in
    search (rules, row)

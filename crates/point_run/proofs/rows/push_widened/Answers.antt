use Rattle.point_run.proofs.Words.{rules, ◌≡◌, ◌-◌, ◌++◌, length, drop, replicate, pos, width, coefficients}
use Rattle.point_run.proofs.WidenedRows.{filled, widened_row}
use Rattle.point_run.proofs.rows.push_widened.Goals as goal

pub returns : goal.returns
returns c =
    let n = c.args.rows.now.unknowns in
    let form = c.args.form.now in
    let coefs : c.resize.new.self.items ≡ coefficients c.args.form.now ++ replicate (c.args.rows.now.unknowns - width c.args.form.now) (pos 0) = filled n form c.requires.form.some c.requires.narrow c.resize.new.self.items c.extend_from_slice.new.self.items (length c.extend_from_slice.new.self.items) (search rules) (search rules) (search rules) in
    let last : c.split_at.result.1.now ≡ drop (width c.args.form.now) c.args.form.now = search rules in
    let row = widened_row c.args.rows.now.unknowns c.args.form.now c.requires.form.some c.requires.narrow c.resize.new.self.items c.split_at.result.1.now coefs last in
    record { ok = search (rules, row) }

use Rattle.pip_reader.proofs.Words.{rules, ◌-◌, pos, length, add-one, arith, refl}
use Rattle.std.proofs.lemmas.Slice.{put_mid-rotated}
use Rattle.pip_reader.proofs.row.constant_last.Goals as goal

pub returns : goal.returns
returns c = rw (put_mid-rotated c.args.coefficients (length c.args.row.now - c.args.coefficients) c.args.row.now c.rotate_left.new.self (pos 0) c.requires (omega arith) (search rules), add-one) refl

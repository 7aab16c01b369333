use Rattle.quast_walk.proofs.Words.{arith, ◌<◌, ◌+◌, ◌^◌, answer_of}
use Rattle.pip_model.specs.Limits.{most_nesting}
use Rattle.quast_walk.proofs.GivenRows.{rows_context, formed_of}
use Rattle.quast_walk.proofs.nodes.given.Goals as goal

pub returns : goal.returns
returns c =
    let w = c.args.rows.now.width in
    let small : w + most_nesting < 2 ^ 127 = omega (arith, c.width.ensures) in
    let printable = c.levels.ensures.sound w c.requires small in
    record {
      context = rows_context w c.as_slice.result.now c.args.rows.now.forms c.as_slice.ensures.value c.as_slice.ensures.width;
      small = small;
      printable = printable;
      well_formed = formed_of w (answer_of c.args.answer.now) printable;
    }

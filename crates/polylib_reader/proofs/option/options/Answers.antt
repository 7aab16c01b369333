use Rattle.polylib_reader.proofs.Words.{rules, length, true, err_from_is_err_and, accepted_option, options, read_fault, refused_by}
use Rattle.polylib_reader.specs.Words.{word_of}
use Rattle.polylib_reader.proofs.Options.{options_kept, option_refused}
use Rattle.polylib_reader.proofs.option.options.Goals as goal

pub returns-in_err-at : goal.returns-in_err-at
returns-in_err-at c =
    let p = err_from_is_err_and c.from_residual.result c.from_residual.ensures.1 in
    rw (p.1, p.2) (refused_by (read_fault c.in_err-at.field-0.0) (accepted_option (word_of c.next_word-word.result)) (options c.args.bytes.now (length c.args.bytes.now) true c.args.place)
    (option_refused c.args.bytes.now c.loop.integer (length c.args.bytes.now) c.loop.counter c.loop.at (word_of c.next_word-word.result) _ c.next_word-word.ensures.value (search rules) (search rules) c.loop.invariant.so_far) c.in_err-at.ensures.agrees)

pub loop-preserved : goal.loop-preserved
loop-preserved c = record {
  so_far = options_kept _ c.loop.integer _ c.loop.counter c.loop.at (word_of c.next_word-word.result) _ _ c.next_word-word.ensures.value (search rules) (search rules) c.loop.invariant.so_far c.in_ok-at.ensures.agrees;
  within = search rules;
}

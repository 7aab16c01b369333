use Rattle.short_row.proofs.Words.{rules, ◌≡◌, false, to_z, of_z, w64, list_all, All-set, floor_divided, floor_div, is_short, IsShort, begun_coefs, begun_constant, row_of}
use Rattle.short_row.proofs.Finished.{no_denominator, begun_divided, no_den, no_entry, no_coefs, no_constant}
use Rattle.short_row.proofs.begun.finish.Goals as goal

pub returns-in_err-den : goal.returns-in_err-den
returns-in_err-den c =
    let long : is_short (floor_div c.args.begun.now.den c.divisor-divisor.result) ≡ false = search rules in
    rw c.from_residual.ensures
    (no_denominator _ _ _ (no_den c.args.begun.now (row_of c.args.p.now) c.args.coefs.now c.args.constant.now c.requires c.divisor-divisor.result c.divisor-divisor.ensures.value long))

pub returns-in_err-entry : goal.returns-in_err-entry
returns-in_err-entry c =
    let long : is_short (floor_div c.args.begun.now.entry c.divisor-divisor.result) ≡ false = search rules in
    rw c.from_residual-in_err-entry.ensures
    (no_denominator _ _ _ (no_entry c.args.begun.now (row_of c.args.p.now) c.args.coefs.now c.args.constant.now c.requires c.divisor-divisor.result c.divisor-divisor.ensures.value long))

pub returns-then-not-divide_finished : goal.returns-then-not-divide_finished
returns-then-not-divide_finished c =
    let long : list_all is_short (floor_divided c.divisor-divisor.result (begun_coefs c.args.begun.now (row_of c.args.p.now) c.args.coefs.now)) ≡ false = search rules in
    no_denominator _ _ _ (no_coefs c.args.begun.now (row_of c.args.p.now) c.args.coefs.now c.args.constant.now c.requires c.divisor-divisor.result c.divisor-divisor.ensures.value c.divisor-divisor.ensures.positive long)

pub returns-then-not-divide_finished-2 : goal.returns-then-not-divide_finished-2
returns-then-not-divide_finished-2 c =
    let long : list_all is_short (floor_divided c.divisor-divisor.result (begun_constant c.args.begun.now (row_of c.args.p.now) c.args.constant.now)) ≡ false = search rules in
    no_denominator _ _ _ (no_constant c.args.begun.now (row_of c.args.p.now) c.args.coefs.now c.args.constant.now c.requires c.divisor-divisor.result c.divisor-divisor.ensures.value long)

pub returns : goal.returns
returns c = record {
  value =
      let den : to_z w64 (of_z w64 c.in_ok-den.den) ≡ floor_div c.args.begun.now.den c.divisor-divisor.result = search rules in
      let entry : to_z w64 (of_z w64 c.in_ok-entry.entry) ≡ floor_div c.args.begun.now.entry c.divisor-divisor.result = search rules in
      let coefs : c.divide_finished.new.r ≡ floor_divided c.divisor-divisor.result (begun_coefs c.args.begun.now (row_of c.args.p.now) c.args.coefs.now) = search rules in
      let constant : c.divide_finished-2.new.r ≡ floor_divided c.divisor-divisor.result (begun_constant c.args.begun.now (row_of c.args.p.now) c.args.constant.now) = search rules in
      begun_divided c.args.begun.now (row_of c.args.p.now) c.args.coefs.now c.args.constant.now c.requires c.divisor-divisor.result c.divisor-divisor.ensures.value
      (to_z w64 (of_z w64 c.in_ok-den.den)) (to_z w64 (of_z w64 c.in_ok-entry.entry)) c.divide_finished.new.r c.divide_finished-2.new.r den entry coefs constant;
  short = record { den = search rules; coefs = All-set IsShort _ _ _ (search rules) (search rules); constant = search rules };
  long = search rules;
}

use Rattle.tableau_row.proofs.Words.{rules, arith, subst, length-append, substituted_by, IsOwnRow, IsShortRow, ◌≡◌, ◌∙◌, ◌+◌, sym, ap, to_z, of_z, w64, w128, get_or, pos, length, numbers_of, row_of, row_of_numbers, short_entry_held, own_row}
use Rattle.tableau_row.proofs.Found.{stepped, again, short_of_numbers, eliminated_whole, whole_made, found_again, divided_again, reduced_again}
use Rattle.tableau_row.proofs.row.eliminate_short.Goals as goal

pub new-step-requires-clause-column : goal.new-step-requires-clause-column
new-step-requires-clause-column c = c.requires.step.pivot.column

pub new-step-requires-clause-positive : goal.new-step-requires-clause-positive
new-step-requires-clause-positive c = c.requires.step.pivot.positive

pub new-step-requires-clause-p : goal.new-step-requires-clause-p
new-step-requires-clause-p c = c.requires.short.first

pub new-step-requires-clause-den : goal.new-step-requires-clause-den
new-step-requires-clause-den c = search (rules, c.requires.step.row.positive)

pub substitute_short-short-requires-clause-step : goal.substitute_short-short-requires-clause-step
substitute_short-short-requires-clause-step c = c.requires.step

pub substitute_short-short-requires-clause-short : goal.substitute_short-short-requires-clause-short
substitute_short-short-requires-clause-short c = c.requires.short

pub new-step-requires-clause-short : goal.new-step-requires-clause-short
new-step-requires-clause-short c =
    let zs = c.args.numbers.now in
    let all = short_of_numbers (length c.args.p.now.coefs.now) zs c.requires.length c.requires.short.second in
    record {
      first = short_entry_held zs 0 all (omega (arith, c.requires.length));
      second = short_entry_held zs (1 + c.args.c) all (omega (arith, c.requires.length, c.requires.step.pivot.column));
    }

pub returns-then-step-eq1-clause-value : goal.returns-then-step-eq1-clause-value
returns-then-step-eq1-clause-value c =
    let zs = c.args.numbers.now in
    let p = row_of c.args.p.now in
    let s = c.new-step.result in
    let r = row_of_numbers (length p.coefs) zs in
    let is = stepped (length p.coefs) c.args.c zs p s (to_z w128 (of_z w128 (get_or zs (1 + c.args.c) (pos 0)))) (to_z w128 (of_z w128 (get_or zs 0 (pos 0)))) c.requires.step.pivot.column (search rules) c.new-step.ensures.lowest (search rules) c.new-step.ensures.divisor in
    c.substitute_short-short.ensures.value ∙ ap numbers_of (sym (eliminated_whole p c.args.c r s.row s.pivot s.divisor c.requires.step c.requires.reduced is.lowest is.divisor (search rules)))

pub returns-then-step-eq1-clause-made : goal.returns-then-step-eq1-clause-made
returns-then-step-eq1-clause-made c =
    let zs = c.args.numbers.now in
    let p = row_of c.args.p.now in
    let s = c.new-step.result in
    let r = row_of_numbers (length p.coefs) zs in
    let is = stepped (length p.coefs) c.args.c zs p s (to_z w128 (of_z w128 (get_or zs (1 + c.args.c) (pos 0)))) (to_z w128 (of_z w128 (get_or zs 0 (pos 0)))) c.requires.step.pivot.column (search rules) c.new-step.ensures.lowest (search rules) c.new-step.ensures.divisor in
    whole_made p c.args.c r s.row s.pivot s.divisor c.requires.step c.requires.reduced is.lowest is.divisor _ (search rules) c.substitute_short-short.ensures.made

pub divide_from-requires-clause-length : goal.divide_from-requires-clause-length
divide_from-requires-clause-length c =
    let p = row_of c.args.p.now in
    let s = c.new-step.result in
    let r = row_of_numbers (length p.coefs) c.args.numbers.now in
    let made = substituted_by s.row s.pivot p c.args.c r in
    omega (arith, ap length c.substitute_short-short.ensures.value, length-append made.coefs made.constant, c.substitute_short-short.ensures.made.row.coefs, c.requires.step.coefs)

pub divide_from-requires-clause-row : goal.divide_from-requires-clause-row
divide_from-requires-clause-row c =
    let zs = c.args.numbers.now in
    let p = row_of c.args.p.now in
    let s = c.new-step.result in
    let r = row_of_numbers (length p.coefs) zs in
    let is = stepped (length p.coefs) c.args.c zs p s (to_z w128 (of_z w128 (get_or zs (1 + c.args.c) (pos 0)))) (to_z w128 (of_z w128 (get_or zs 0 (pos 0)))) c.requires.step.pivot.column (search rules) c.new-step.ensures.lowest (search rules) c.new-step.ensures.divisor in
    let made = substituted_by s.row s.pivot p c.args.c r in
    subst IsOwnRow (sym (again p c.args.c (length p.coefs) r s.row s.pivot s.divisor c.requires.step.coefs c.requires.step c.requires.reduced is.lowest is.divisor _ c.substitute_short-short.ensures.value)) (own_row _ _ made c.substitute_short-short.ensures.made.row)

pub divide_from-requires-clause-start : goal.divide_from-requires-clause-start
divide_from-requires-clause-start c = search (rules, c.new-step.result.divisor_positive)

pub divide_from-requires-clause-start_short : goal.divide_from-requires-clause-start_short
divide_from-requires-clause-start_short c = search (rules, c.new-step.result.divisor_short)

pub divide_from-requires-clause-short : goal.divide_from-requires-clause-short
divide_from-requires-clause-short c =
    let zs = c.args.numbers.now in
    let p = row_of c.args.p.now in
    let s = c.new-step.result in
    let r = row_of_numbers (length p.coefs) zs in
    let is = stepped (length p.coefs) c.args.c zs p s (to_z w128 (of_z w128 (get_or zs (1 + c.args.c) (pos 0)))) (to_z w128 (of_z w128 (get_or zs 0 (pos 0)))) c.requires.step.pivot.column (search rules) c.new-step.ensures.lowest (search rules) c.new-step.ensures.divisor in
    λ e. subst IsShortRow (sym (again p c.args.c (length p.coefs) r s.row s.pivot s.divisor c.requires.step.coefs c.requires.step c.requires.reduced is.lowest is.divisor _ c.substitute_short-short.ensures.value)) (c.substitute_short-short.ensures.made.short e)

pub divide_from-requires-clause-divisor : goal.divide_from-requires-clause-divisor
divide_from-requires-clause-divisor c =
    let zs = c.args.numbers.now in
    let p = row_of c.args.p.now in
    let s = c.new-step.result in
    let r = row_of_numbers (length p.coefs) zs in
    let is = stepped (length p.coefs) c.args.c zs p s (to_z w128 (of_z w128 (get_or zs (1 + c.args.c) (pos 0)))) (to_z w128 (of_z w128 (get_or zs 0 (pos 0)))) c.requires.step.pivot.column (search rules) c.new-step.ensures.lowest (search rules) c.new-step.ensures.divisor in
    let held : to_z w64 (of_z w64 s.divisor) ≡ s.divisor = search rules in
    found_again p c.args.c (length p.coefs) r s.row s.pivot (to_z w64 (of_z w64 s.divisor)) c.requires.step.coefs c.requires.step c.requires.reduced is.lowest (held ∙ is.divisor) _ c.substitute_short-short.ensures.value

pub returns-clause-value : goal.returns-clause-value
returns-clause-value c =
    let zs = c.args.numbers.now in
    let p = row_of c.args.p.now in
    let s = c.new-step.result in
    let r = row_of_numbers (length p.coefs) zs in
    let is = stepped (length p.coefs) c.args.c zs p s (to_z w128 (of_z w128 (get_or zs (1 + c.args.c) (pos 0)))) (to_z w128 (of_z w128 (get_or zs 0 (pos 0)))) c.requires.step.pivot.column (search rules) c.new-step.ensures.lowest (search rules) c.new-step.ensures.divisor in
    c.divide_from.ensures.value ∙ divided_again p c.args.c (length p.coefs) r s.row s.pivot s.divisor c.requires.step.coefs c.requires.step c.requires.reduced is.lowest is.divisor _ c.substitute_short-short.ensures.value

pub returns-clause-made : goal.returns-clause-made
returns-clause-made c =
    let zs = c.args.numbers.now in
    let p = row_of c.args.p.now in
    let s = c.new-step.result in
    let r = row_of_numbers (length p.coefs) zs in
    let is = stepped (length p.coefs) c.args.c zs p s (to_z w128 (of_z w128 (get_or zs (1 + c.args.c) (pos 0)))) (to_z w128 (of_z w128 (get_or zs 0 (pos 0)))) c.requires.step.pivot.column (search rules) c.new-step.ensures.lowest (search rules) c.new-step.ensures.divisor in
    reduced_again p c.args.c (length p.coefs) r s.row s.pivot s.divisor c.requires.step.coefs c.requires.step c.requires.reduced is.lowest is.divisor _ c.substitute_short-short.ensures.value _ _ c.substitute_short-short.ensures.made c.divide_from.ensures.made

use Rattle.short_row.proofs.Words.{rules, ◌≡◌, ap, ◌∙◌, pos, ◌≤ℤ◌, take, drop, to_z, of_z, w64, All-append, All-drop, All-same, All-set, gcd, get_or, floor_div, IsShort, scale}
use Rattle.short_row.proofs.Wholes.{gcd_first, gcd_second, factor_short, scaled_less}
use Rattle.short_row.proofs.whole.divide_less.Goals as goal

pub multiply_all-requires : goal.multiply_all-requires
multiply_all-requires c =
    let number = get_or c.args.entries.now c.args.i (pos 0) in
    let divisor = to_z w64 (of_z w64 c.gcd-divisor.result) in
    let factor = to_z w64 (of_z w64 c.short_floor_div.result) in
    let value : to_z w64 (of_z w64 c.gcd-divisor.result) ≡ gcd c.args.d (get_or c.args.entries.now c.args.i (pos 0)) = search rules in
    let some : pos 1 ≤ℤ to_z w64 (of_z w64 c.gcd-divisor.result) = let p = c.gcd-divisor.ensures.divisor.positive in search (rules, p) in
    let quotient : to_z w64 (of_z w64 c.short_floor_div.result) ≡ floor_div c.args.d (to_z w64 (of_z w64 c.gcd-divisor.result)) = search rules in
    let front : c.split_at_mut-front.result.0.now ≡ take c.args.i c.args.entries.now = search rules in
    factor_short c.args.d factor divisor c.args.entries.now c.split_at_mut-front.result.0.now c.args.i (gcd_first c.args.d number divisor factor some value quotient) some front c.requires.whole

pub returns-clause-whole : goal.returns-clause-whole
returns-clause-whole c =
    let number = get_or c.args.entries.now c.args.i (pos 0) in
    let divisor = to_z w64 (of_z w64 c.gcd-divisor.result) in
    let factor = to_z w64 (of_z w64 c.short_floor_div.result) in
    let last = to_z w64 (of_z w64 c.short_floor_div-2.result) in
    let value : to_z w64 (of_z w64 c.gcd-divisor.result) ≡ gcd c.args.d (get_or c.args.entries.now c.args.i (pos 0)) = search rules in
    let some : pos 1 ≤ℤ to_z w64 (of_z w64 c.gcd-divisor.result) = let p = c.gcd-divisor.ensures.divisor.positive in search (rules, p) in
    let quotient : to_z w64 (of_z w64 c.short_floor_div.result) ≡ floor_div c.args.d (to_z w64 (of_z w64 c.gcd-divisor.result)) = search rules in
    let last_is : to_z w64 (of_z w64 c.short_floor_div-2.result) ≡ floor_div (get_or c.args.entries.now c.args.i (pos 0)) (to_z w64 (of_z w64 c.gcd-divisor.result)) = search rules in
    let front : c.split_at_mut-front.result.0.now ≡ take c.args.i c.args.entries.now = search rules in
    let rest : c.split_at_mut-front.result.1.now ≡ drop c.args.i c.args.entries.now = search rules in
    scaled_less c.args.d factor divisor last c.args.entries.now c.multiply_all.new.entries c.split_at_mut-front.result.1.now c.args.i (gcd_first c.args.d number divisor factor some value quotient)
    (c.multiply_all.ensures ∙ ap (scale factor) front) rest c.requires.place (gcd_second c.args.d number divisor last some value last_is)

pub returns-clause-short : goal.returns-clause-short
returns-clause-short c =
    let number = get_or c.args.entries.now c.args.i (pos 0) in
    let divisor = to_z w64 (of_z w64 c.gcd-divisor.result) in
    let factor = to_z w64 (of_z w64 c.short_floor_div.result) in
    let value : to_z w64 (of_z w64 c.gcd-divisor.result) ≡ gcd c.args.d (get_or c.args.entries.now c.args.i (pos 0)) = search rules in
    let some : pos 1 ≤ℤ to_z w64 (of_z w64 c.gcd-divisor.result) = let p = c.gcd-divisor.ensures.divisor.positive in search (rules, p) in
    let quotient : to_z w64 (of_z w64 c.short_floor_div.result) ≡ floor_div c.args.d (to_z w64 (of_z w64 c.gcd-divisor.result)) = search rules in
    let front : c.split_at_mut-front.result.0.now ≡ take c.args.i c.args.entries.now = search rules in
    let rest : c.split_at_mut-front.result.1.now ≡ drop c.args.i c.args.entries.now = search rules in
    let short = factor_short c.args.d factor divisor c.args.entries.now c.split_at_mut-front.result.0.now c.args.i (gcd_first c.args.d number divisor factor some value quotient) some front c.requires.whole in
    All-set IsShort _ _ _ (search rules) (All-append IsShort _ _ (All-same IsShort _ _ c.multiply_all.ensures short) (All-same IsShort _ _ rest (All-drop IsShort _ _ c.requires.short)))

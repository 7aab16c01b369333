use Rattle.affine_forms.proofs.Words.{rules, ◌*ℤ◌, ◌-ℤ◌, IsFalse, fits}
use Rattle.affine_forms.proofs.Combined.{first_refused, second_refused, third_refused, all_three_fit}
use Rattle.affine_forms.proofs.combination.checked_difference.Goals as goal

pub returns-in_err-times-clause-listed : goal.returns-in_err-times-clause-listed
returns-in_err-times-clause-listed c =
    first_refused c.args.a c.args.x c.args.b c.args.y _ c.from_residual.ensures.0 (search rules)

pub returns-in_err-times-2-clause-listed : goal.returns-in_err-times-2-clause-listed
returns-in_err-times-2-clause-listed c =
    second_refused c.args.a c.args.x c.args.b c.args.y _ c.from_residual-in_err-times-2.ensures.0
    (search rules) (search rules)

pub returns-in_err-difference-clause-listed : goal.returns-in_err-difference-clause-listed
returns-in_err-difference-clause-listed c =
    let over : IsFalse (fits (c.args.a *ℤ c.args.x -ℤ c.args.b *ℤ c.args.y)) = search rules in
    third_refused c.args.a c.args.x c.args.b c.args.y _ c.from_residual-in_err-difference.ensures.0
    (search rules) (search rules) over

pub returns-clause-listed : goal.returns-clause-listed
returns-clause-listed c =
    all_three_fit c.args.a c.args.x c.args.b c.args.y (search rules) (search rules) (search rules)

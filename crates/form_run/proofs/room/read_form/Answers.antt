use Rattle.form_run.proofs.Words.{rules, ◌≡◌, ◌∙◌, [], ◌∷◌, ap, sym, subst, ℕ, Row, divided, row_of_numbers, IsShortRow, with_row, combined, size_is, short_is, divided_is}
use Rattle.row_laws.specs.Flat.{numbers_of}
use Rattle.form_run.proofs.room.read_form.Goals as goal

pub push_divided-requires-clause-size : goal.push_divided-requires-clause-size
push_divided-requires-clause-size c =
    let is : c.deref.result.now ≡ numbers_of (combined c.args.places.now c.args.basis.now c.args.form.now) = search rules in
    let n : c.restart.new.self.unknowns ≡ c.args.places.now.unknowns = search rules in
    rw n (size_is c.args.places.now c.args.basis.now c.args.form.now c.requires c.deref.result.now is)

pub push_divided-requires-clause-short : goal.push_divided-requires-clause-short
push_divided-requires-clause-short c =
    let is : c.deref.result.now ≡ numbers_of (combined c.args.places.now c.args.basis.now c.args.form.now) = search rules in
    let n : c.restart.new.self.unknowns ≡ c.args.places.now.unknowns = search rules in
    subst (λ (k : ℕ). IsShortRow (row_of_numbers k c.deref.result.now)) (sym n) (short_is c.args.places.now c.args.basis.now c.args.form.now c.requires c.deref.result.now is)

pub returns : goal.returns
returns c =
    let is : c.deref.result.now ≡ numbers_of (combined c.args.places.now c.args.basis.now c.args.form.now) = search rules in
    let now : c.push_divided.new.self ≡ with_row c.restart.new.self (divided (row_of_numbers c.restart.new.self.unknowns c.deref.result.now)) = search rules in
    let before : c.restart.new.self ≡ record { unknowns = c.args.places.now.unknowns; width = 0; rows = [] } = search rules in
    now ∙ rw before (ap (λ (r : Row). record { unknowns = c.args.places.now.unknowns; width = 0; rows = r ∷ [] }) (divided_is c.args.places.now c.args.basis.now c.args.form.now c.requires c.deref.result.now is))

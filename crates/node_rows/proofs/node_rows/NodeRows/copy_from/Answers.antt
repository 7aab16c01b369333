use Rattle.node_rows.proofs.Words.{rules, arith, ◌≡◌, ◌∙◌, refl, ap, ℤ, List, [], ◌∷◌, length, map, length-append, Row, TableauRows, Basis, read, all_rows}
use Rattle.std.proofs.lemmas.List.{append-nil}
use Rattle.node_rows.proofs.node_rows.NodeRows.copy_from.Goals as goal

none_left : (t : TableauRows) (b : Basis) (forms : List (List ℤ)) → (all_rows t b forms).rows ≡ [] → forms ≡ []
none_left t b [] e = refl
none_left t b (f ∷ forms) e = absurd (omega (arith, ap length e, length-append t.rows (map (read t b) (f ∷ forms))))

made_alone : (t : TableauRows) (b : Basis) (forms : List (List ℤ)) → forms ≡ [] → all_rows t b forms ≡ t
made_alone t b forms e = rw e (ap (λ (rows : List Row). record t { rows = rows }) (append-nil t.rows))

pub invariant_of-self : goal.invariant_of-self
invariant_of-self c =
    let none = none_left c.self.inside.made c.self.inside.basis c.self.inside.forms (ap (λ (s : TableauRows). s.rows) (c.self.view_is ∙ c.reshape.ensures)) in
    (λ k d lt. absurd (omega (arith, lt, ap length none)), λ k d lt. absurd (omega (arith, lt, ap length none)))

pub returns-then-is_empty-clause-ok : goal.returns-then-is_empty-clause-ok
returns-then-is_empty-clause-ok c =
    let none = none_left c.self.inside.made c.self.inside.basis c.self.inside.forms (ap (λ (s : TableauRows). s.rows) (c.self.view_is ∙ c.reshape.ensures)) in
    let there = made_alone c.t.inside.made c.t.inside.basis c.t.inside.forms (search rules) in
    search (rules, (made_alone c.copy_from.new.self c.self.inside.basis c.self.inside.forms none), there)

pub returns-then-is_empty-clause-err : goal.returns-then-is_empty-clause-err
returns-then-is_empty-clause-err c =
    let none = none_left c.self.inside.made c.self.inside.basis c.self.inside.forms (ap (λ (s : TableauRows). s.rows) (c.self.view_is ∙ c.reshape.ensures)) in
    let there = made_alone c.t.inside.made c.t.inside.basis c.t.inside.forms (search rules) in
    search (rules, (made_alone c.copy_from.new.self c.self.inside.basis c.self.inside.forms none), there)

use Rattle.lane_rows.proofs.Words.{rules, ◌≡◌, ◌∙◌, ◌*◌, ◌<◌, ◌≤◌, ◌^◌, ap, sym, subst, pos, unsigned_abs, ℕ, ℤ, List, to_z, of_z, w32, entry, dot, norm, line}
use Rattle.lane_rows.proofs.Values.{made_unused, made_within}
use Rattle.lane_rows.proofs.Views.{columns_are, most_is, read_row}
use Rattle.lane_rows.proofs.lane_rows.LaneRows.read.Goals as goal

pub returns-clause-value : goal.returns-clause-value
returns-clause-value c =
    let rows : c.deref.result.now ≡ c.self.inside.rows.items = search rules in
    read_row c.self.inside.unknowns c.self.inside.rows.items c.self.inside.scale c.self.inside.most _ c.self.view_is c.self.inside.at c.self.invariant c.args.form c.combined.result c.requires.lanes c.combined.ensures.lanes
    (λ k lt. c.combined.ensures.value k lt ∙ ap (λ (rs : List (List ℤ)). dot c.args.form (line c.self.inside.unknowns rs (to_z w32 (of_z w32 c.self.inside.scale)) k)) rows
    ∙ ap (λ (l : ℤ). dot c.args.form (line c.self.inside.unknowns c.self.inside.rows.items l k)) (search rules))

pub returns-clause-unused : goal.returns-clause-unused
returns-clause-unused c =
    let rows : c.deref.result.now ≡ c.self.inside.rows.items = search rules in
    subst (λ (n : ℕ). (k : ℕ) → n < k → entry c.combined.result k ≡ pos 0) (columns_are c.self.inside.unknowns c.self.inside.rows.items c.self.inside.scale c.self.inside.most _ c.self.view_is)
    (made_unused c.self.inside.unknowns c.self.inside.rows.items c.self.inside.scale c.self.inside.most c.self.inside.at c.self.invariant c.args.form c.requires.lanes
    (subst (λ (m : ℕ). norm c.args.form * m < 2 ^ 31) (sym (most_is c.self.inside.unknowns c.self.inside.rows.items c.self.inside.scale c.self.inside.most _ c.self.view_is)) c.requires.bound) c.combined.result c.combined.ensures.lanes
    (λ k lt. c.combined.ensures.value k lt ∙ ap (λ (rs : List (List ℤ)). dot c.args.form (line c.self.inside.unknowns rs (to_z w32 (of_z w32 c.self.inside.scale)) k)) rows
    ∙ ap (λ (l : ℤ). dot c.args.form (line c.self.inside.unknowns c.self.inside.rows.items l k)) (search rules)))

pub returns-clause-within : goal.returns-clause-within
returns-clause-within c =
    let rows : c.deref.result.now ≡ c.self.inside.rows.items = search rules in
    subst (λ (m : ℕ). (k : ℕ) → unsigned_abs (entry c.combined.result k) ≤ norm c.args.form * m) (most_is c.self.inside.unknowns c.self.inside.rows.items c.self.inside.scale c.self.inside.most _ c.self.view_is)
    (made_within c.self.inside.unknowns c.self.inside.rows.items c.self.inside.scale c.self.inside.most c.self.inside.at c.self.invariant c.args.form c.requires.lanes
    (subst (λ (m : ℕ). norm c.args.form * m < 2 ^ 31) (sym (most_is c.self.inside.unknowns c.self.inside.rows.items c.self.inside.scale c.self.inside.most _ c.self.view_is)) c.requires.bound) c.combined.result c.combined.ensures.lanes
    (λ k lt. c.combined.ensures.value k lt ∙ ap (λ (rs : List (List ℤ)). dot c.args.form (line c.self.inside.unknowns rs (to_z w32 (of_z w32 c.self.inside.scale)) k)) rows
    ∙ ap (λ (l : ℤ). dot c.args.form (line c.self.inside.unknowns c.self.inside.rows.items l k)) (search rules)))

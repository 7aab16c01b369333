use Rattle.lane_rows.proofs.Words.{rules, arith, ◌≡◌, ◌∙◌, ◌+◌, ◌<◌, ◌≤◌, ◌++◌, All, ap, sym, subst, unsigned_abs, ℕ, ℤ, List, length, map, take, drop, to_z, of_z, w32, entry, divided, eliminated, row_over, ScaledTable, numbers_of, rows_in, AreLaned, AreUnused, IsVertex, entry_within, AreLanes, AreTurned, CanTurn}
use Rattle.lane_rows.proofs.Pivoted.{none_laned, can_turn, pivoted, put_back, rows_pivoted}
use Rattle.lane_rows.proofs.Views.{columns_are}
use Rattle.lane_rows.proofs.lane_rows.LaneRows.pivot.Goals as goal

pub turn_rows-requires-clause-products : goal.turn_rows-requires-clause-products
turn_rows-requires-clause-products c =
    subst (CanTurn c.args.p) (sym (search rules))
    (can_turn c.self.inside.unknowns c.self.inside.rows.items c.self.inside.at c.self.inside.scale c.self.inside.most c.size.result c.args.p c.self.invariant c.requires.lanes
    (λ k. entry_within c.size.result c.args.p k c.size.ensures.within) (c.can_turn.ensures c.if-not-can_turn.false))

pub vertex-self-inside-requires-clause-enough : goal.vertex-self-inside-requires-clause-enough
vertex-self-inside-requires-clause-enough c =
    let long : length c.turn_rows.new.rows ≡ length c.self.inside.rows.items = c.in-Some.ensures.made.long ∙ ap length (search rules) in
    let back = put_back c.self.inside.rows.len c.turn_rows.new.rows c.self.inside.rows.items long (search rules) in
    omega (arith, ap length (c.deref.ensures.value ∙ back), long, c.self.invariant.enough)

pub vertex-self-inside-requires-clause-rows : goal.vertex-self-inside-requires-clause-rows
vertex-self-inside-requires-clause-rows c =
    let long : length c.turn_rows.new.rows ≡ length c.self.inside.rows.items = c.in-Some.ensures.made.long ∙ ap length (search rules) in
    let back = put_back c.self.inside.rows.len c.turn_rows.new.rows c.self.inside.rows.items long (search rules) in
    subst (All AreLanes) (sym (c.deref.ensures.value ∙ back)) c.in-Some.ensures.made.lanes

pub invariant_of-self : goal.invariant_of-self
invariant_of-self c = none_laned c.clear-in-None.new.self.items c.unit-self-inside.result c.clear-in-None.ensures.items c.unit-self-inside.ensures.value c.unit-self-inside.ensures.lanes

pub invariant_of-self-in-Some : goal.invariant_of-self-in-Some
invariant_of-self-in-Some c =
    let n = c.self.inside.unknowns in
    let old = c.self.inside.rows.items in
    let new = c.turn_rows.new.rows in
    let a = entry c.args.p (c.args.c + 1) in
    let items : c.deref_mut.result.now ≡ c.self.inside.rows.items = search rules in
    let scale : to_z w32 (of_z w32 c.self.inside.scale) ≡ c.self.inside.scale = search rules in
    let number : to_z w32 (of_z w32 c.get-a.result) ≡ entry c.args.p (c.args.c + 1) = search rules in
    let turns : AreTurned c.self.inside.scale c.args.p (c.args.c + 1) c.self.inside.rows.items c.turn_rows.new.rows c.in-Some.most =
    subst (λ (rows : List (List ℤ)). AreTurned c.self.inside.scale c.args.p (c.args.c + 1) rows c.turn_rows.new.rows c.in-Some.most) items
    (subst (λ (l : ℤ). AreTurned l c.args.p (c.args.c + 1) c.deref_mut.result.now c.turn_rows.new.rows c.in-Some.most) scale c.in-Some.ensures.made) in
    let back = put_back c.self.inside.rows.len c.turn_rows.new.rows c.self.inside.rows.items turns.long (search rules) in
    let e = columns_are c.self.inside.unknowns c.self.inside.rows.items c.self.inside.scale c.self.inside.most _ c.self.view_is in
    let inside : c.args.c < c.self.inside.unknowns = omega (arith, e, c.requires.column) in
    let unused : AreUnused c.self.inside.unknowns c.args.p = subst (λ (k : ℕ). AreUnused k c.args.p) (sym e) c.requires.unused in
    let size : c.unsigned_abs.result ≡ unsigned_abs (entry c.args.p (c.args.c + 1)) = search rules in
    let small : unsigned_abs (entry c.args.p (c.args.c + 1)) ≤ c.in-Some.most = omega (arith, size, c.in-Some.ensures.start) in
    let vertex : IsVertex c.self.inside.unknowns c.turn_rows.new.rows (entry c.args.p (c.args.c + 1)) c.vertex-self-inside.result =
    subst (λ (rows : List (List ℤ)). IsVertex c.self.inside.unknowns rows (entry c.args.p (c.args.c + 1)) c.vertex-self-inside.result) (c.deref.ensures.value ∙ back)
    (subst (λ (l : ℤ). IsVertex c.self.inside.unknowns c.deref.result.now l c.vertex-self-inside.result) number c.vertex-self-inside.ensures) in
    subst (λ (l : ℤ). AreLaned n (take c.self.inside.rows.len (new ++ drop (length new) old)) c.vertex-self-inside.result l c.in-Some.most) (sym number)
    (subst (λ (rows : List (List ℤ)). AreLaned n rows c.vertex-self-inside.result a c.in-Some.most) (sym back)
    (pivoted n old new c.self.inside.at c.vertex-self-inside.result c.self.inside.scale c.self.inside.most c.in-Some.most c.args.p c.args.c c.self.invariant c.requires.lanes unused inside c.requires.positive turns small c.in-Some.ensures.narrow vertex))

pub returns-in-Some-clause-rows : goal.returns-in-Some-clause-rows
returns-in-Some-clause-rows c = λ yes.
    let n = c.self.inside.unknowns in
    let old = c.self.inside.rows.items in
    let new = c.turn_rows.new.rows in
    let items : c.deref_mut.result.now ≡ c.self.inside.rows.items = search rules in
    let scale : to_z w32 (of_z w32 c.self.inside.scale) ≡ c.self.inside.scale = search rules in
    let number : to_z w32 (of_z w32 c.get-a.result) ≡ entry c.args.p (c.args.c + 1) = search rules in
    let turns : AreTurned c.self.inside.scale c.args.p (c.args.c + 1) c.self.inside.rows.items c.turn_rows.new.rows c.in-Some.most =
    subst (λ (rows : List (List ℤ)). AreTurned c.self.inside.scale c.args.p (c.args.c + 1) rows c.turn_rows.new.rows c.in-Some.most) items
    (subst (λ (l : ℤ). AreTurned l c.args.p (c.args.c + 1) c.deref_mut.result.now c.turn_rows.new.rows c.in-Some.most) scale c.in-Some.ensures.made) in
    let back = put_back c.self.inside.rows.len c.turn_rows.new.rows c.self.inside.rows.items turns.long (search rules) in
    let e = columns_are c.self.inside.unknowns c.self.inside.rows.items c.self.inside.scale c.self.inside.most _ c.self.view_is in
    let inside : c.args.c < c.self.inside.unknowns = omega (arith, e, c.requires.column) in
    let unused : AreUnused c.self.inside.unknowns c.args.p = subst (λ (k : ℕ). AreUnused k c.args.p) (sym e) c.requires.unused in
    ap (λ (l : ℤ). rows_in n l (length (take c.self.inside.rows.len (new ++ drop (length new) old))) (take c.self.inside.rows.len (new ++ drop (length new) old))) number
    ∙ ap (λ (rows : List (List ℤ)). rows_in n (entry c.args.p (c.args.c + 1)) (length rows) rows) back
    ∙ rows_pivoted n old new c.self.inside.at c.self.inside.at c.self.inside.scale c.self.inside.most c.in-Some.most c.args.p c.args.c c.self.invariant c.requires.lanes unused inside c.requires.positive turns
    ∙ ap (λ (t : ScaledTable). map (eliminated (divided (row_over t.unknowns t.scale (numbers_of t.unknowns c.args.p))) c.args.c) t.rows) c.self.view_is

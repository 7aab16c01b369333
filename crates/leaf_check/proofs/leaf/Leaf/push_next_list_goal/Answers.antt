use Rattle.leaf_check.proofs.Words.{arith, ◌≡◌, ◌∙◌, ap, sym, subst, refl, ◌+◌, ◌-◌, ◌++◌, ℕ, List, ℤ, [], ◌∷◌, length, drop, Option, OnOk, slice_index_or, option_copied, constant, Component, IsChecked, leaf_premises, smaller_from, is_form_overflow, case_of, nothing, own_forms}
use Rattle.std.proofs.Common.{Some}
use Rattle.leaf_check.proofs.Owned.{own_place}
use Rattle.leaf_check.proofs.NextGoal.{one_of_own, more_of_one, more_by_list, more_if_ok, next_forms, next_listed}
use Rattle.leaf_check.proofs.leaf.Leaf.push_next_list_goal.Goals as goal

pub returns-then-r-single-clause-pushed : goal.returns-then-r-single-clause-pushed
returns-then-r-single-clause-pushed c =
    let P = c.args.self.now.problem.now in
    let L = case_of c.args.self.now in
    let cs = c.args.components.now in
    let r = c.args.r in
    let same : length c.rows.result.now ≡ length c.args.self.now.problem.now.rows = ap length c.rows.ensures.value in
    let one : length (own_forms c.args.self.now c.args.r) ≡ 1
    = ap (λ (o : Option (List Component)). length (slice_index_or (leaf_premises P L o) r nothing).known) c.requires.list ∙ one_of_own P L cs r (omega (arith, same, c.if-r-single.true)) in
    let own : (slice_index_or (leaf_premises c.args.self.now.problem.now (case_of c.args.self.now) (Some c.args.components.now)) (c.args.r + 1) nothing).known ≡ own_forms c.args.self.now (c.args.r + 1)
    = ap (λ (o : Option (List Component)). (slice_index_or (leaf_premises P L o) (r + 1) nothing).known) (sym c.requires.list) in
    record {
      ok = more_if_ok c.args.self.now (c.args.r + 1) c.push_list_goal.result c.args.known.now c.push_list_goal.new.known (slice_index_or (leaf_premises P L (Some cs)) (r + 1) nothing).known c.push_list_goal.ensures.pushed.ok
          (more_of_one c.args.self.now r one own);
      stay = c.push_list_goal.ensures.pushed.front;
      width = c.push_list_goal.ensures.pushed.width;
    }

pub overflow_add-r-2 : goal.overflow_add-r-2
overflow_add-r-2 c =
    let place = own_place c.args.self.now.problem.now (case_of c.args.self.now) (option_copied c.args.self.now.list) c.args.components.now (c.args.r + 1) c.requires.list c.requires.place in
    omega (arith, (ap length c.rows.ensures.value), place, c.ranges.r.fits, c.if-r-single.false)

pub split_at-requires : goal.split_at-requires
split_at-requires c =
    let place = own_place c.args.self.now.problem.now (case_of c.args.self.now) (option_copied c.args.self.now.list) c.args.components.now (c.args.r + 1) c.requires.list c.requires.place in
    omega (arith, (ap length c.rows.ensures.value), place, c.if-r-single.false)

pub returns-clause-listed : goal.returns-clause-listed
returns-clause-listed c =
    let P = c.args.self.now.problem.now in
    let L = case_of c.args.self.now in
    let cs = c.args.components.now in
    let r = c.args.r in
    let same : length c.rows.result.now ≡ length c.args.self.now.problem.now.rows = ap length c.rows.ensures.value in
    let place = own_place P L (option_copied c.args.self.now.list) cs (r + 1) c.requires.list c.requires.place in
    let i = r - (length c.rows.result.now + length cs) in
    let is : c.args.r ≡ length c.args.self.now.problem.now.rows + length c.args.components.now + (c.args.r - (length c.rows.result.now + length c.args.components.now)) = omega (arith, same, c.if-r-single.false) in
    let given = subst (λ (w : ℕ). let goal = smaller_from w c.args.self.now.scope c.split_at.result.0.now in IsChecked is_form_overflow (constant (slice_index_or goal (length goal - 1) []) ∷ []) c.push_smaller.result) c.requires.width c.push_smaller.ensures.listed in
    let next = next_listed P L cs c.split_at.result.0.now r i is (omega (arith, same, place, c.if-r-single.false)) c.split_at.ensures.front in
    subst (λ (o : Option (List Component)). IsChecked is_form_overflow (slice_index_or (leaf_premises P L o) (r + 1) nothing).listed c.push_smaller.result) (sym c.requires.list)
    (subst (λ (zs : List ℤ). IsChecked is_form_overflow zs c.push_smaller.result) (sym next) given)

pub returns-clause-pushed : goal.returns-clause-pushed
returns-clause-pushed c =
    let P = c.args.self.now.problem.now in
    let L = case_of c.args.self.now in
    let cs = c.args.components.now in
    let r = c.args.r in
    let front = c.split_at.result.0.now in
    let same : length c.rows.result.now ≡ length c.args.self.now.problem.now.rows = ap length c.rows.ensures.value in
    let place = own_place P L (option_copied c.args.self.now.list) cs (r + 1) c.requires.list c.requires.place in
    let i = r - (length c.rows.result.now + length cs) in
    let is : c.args.r ≡ length c.args.self.now.problem.now.rows + length c.args.components.now + (c.args.r - (length c.rows.result.now + length c.args.components.now)) = omega (arith, same, c.if-r-single.false) in
    let by_width = subst (λ (v : ℕ). OnOk c.push_smaller.result (c.push_smaller.new.self ≡ record c.args.known.now { forms = c.args.known.now.forms ++ drop i (smaller_from v c.args.self.now.scope front) })) c.requires.width c.push_smaller.ensures.pushed.ok in
    let more = λ (F : List (List ℤ)). next_forms P L cs front r i is (omega (arith, same, place, c.if-r-single.false)) c.split_at.ensures.front F (F ++ (slice_index_or (leaf_premises P L (Some cs)) r nothing).known) refl in
    record {
      ok = more_if_ok c.args.self.now (c.args.r + 1) c.push_smaller.result c.args.known.now c.push_smaller.new.self (drop i (smaller_from (c.args.self.now.scope + c.args.self.now.problem.now.unknowns) c.args.self.now.scope front)) by_width
          (more_by_list c.args.self.now cs r _ c.requires.list more);
      stay = c.push_smaller.ensures.pushed.front;
      width = c.push_smaller.ensures.pushed.width;
    }

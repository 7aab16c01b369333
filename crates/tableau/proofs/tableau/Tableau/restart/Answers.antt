use Rattle.tableau.proofs.Words.{◌≡◌, ◌+◌, ◌≤◌, ◌++◌, ◌∙◌, length, arith, map, replicate, max, pos, ◌∷◌, suc, length-map, unit_row, form_row, count_from, length-count, unit_run}
use Rattle.std.proofs.lemmas.List.{length-append}
use Rattle.tableau.proofs.tableau.Tableau.restart.Goals as goal

pub push_forms-requires-clause-room : goal.push_forms-requires-clause-room
push_forms-requires-clause-room c =
    let made = c.make_rooms.new.rows in
    let units = map (unit_row made.unknowns made.width) (count_from 0 made.unknowns) in
    let count : length units ≡ made.unknowns = length-map (count_from 0 made.unknowns) (unit_row made.unknowns made.width) ∙ length-count 0 made.unknowns in
    let now : c.push_units.new.rows ≡ record made { rows = units } = rw (c.clear.ensures) at c.push_units.ensures in
    let few : c.unknowns.result + length c.args.forms.now ≤ c.in_ok-most.most = c.in_ok-most.ensures in
    let room : c.in_ok-most.most ≤ made.most = c.in_ok-make_rooms.ensures.ready.room in
    let same : c.unknowns.result ≡ made.unknowns = grind (arith, c.unknowns.ensures, c.make_rooms.ensures.same.unknowns) in
    rw now (omega (arith, count, few, room, same))

pub invariant_of-self-2 : goal.invariant_of-self-2
invariant_of-self-2 c =
    let made = c.make_rooms.new.rows in
    let next = c.make_rooms.new.next in
    let units = map (unit_row made.unknowns made.width) (count_from 0 made.unknowns) in
    let forms = map (form_row made.unknowns) c.args.forms.now in
    let count : length units ≡ made.unknowns = length-map (count_from 0 made.unknowns) (unit_row made.unknowns made.width) ∙ length-count 0 made.unknowns in
    let more : length forms ≡ length c.args.forms.now = length-map c.args.forms.now (form_row made.unknowns) in
    let both : length (units ++ forms) ≡ length units + length forms = length-append units forms in
    let now : c.push_units.new.rows ≡ record made { rows = units } = rw (c.clear.ensures) at c.push_units.ensures in
    let all : c.push_forms.new.rows ≡ record made { rows = units ++ forms } = rw now at c.push_forms.ensures in
    let few : c.unknowns.result + length c.args.forms.now ≤ c.in_ok-most.most = c.in_ok-most.ensures in
    let room : c.in_ok-most.most ≤ next.most = c.in_ok-make_rooms.ensures.ready.next_room in
    let same : c.unknowns.result ≡ made.unknowns = grind (arith, c.unknowns.ensures, c.make_rooms.ensures.same.unknowns) in
    let run = c.in_ok-make_rooms.ensures.ready.units in
    let zeros = replicate (max made.unknowns (made.width + 1)) (pos 0) in
    let long : length (unit_run made.unknowns made.width) ≡ length (replicate made.unknowns (pos 0)) + suc (length zeros) = length-append (replicate made.unknowns (pos 0)) (pos 1 ∷ zeros) in
    rw all record {
      unknowns = c.make_rooms.ensures.spare.unknowns;
      width = c.make_rooms.ensures.spare.width;
      room = omega (arith, count, more, both, few, room, same);
      begun = λ some. rw run (omega (arith, long));
      run = λ some. run;
    }

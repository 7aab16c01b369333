use Rattle.form_run.proofs.Words.{rules, arith, ints, to_z, of_z, ◌≡◌, ◌<◌, ◌≤◌, length, sym, subst, NumberLists, ◌+◌, pos, ◌≤ℤ◌, ValuesFrom, IsBelowAt, NoneLess}
use Rattle.std.specs.Int.{w64}
use Rattle.form_run.proofs.Seeing.{above_here, below_here, above_seen, above_marked, none_less}
use Rattle.form_run.proofs.Below.{none_negative}
use Rattle.form_run.proofs.looking.form_below.Goals as goal

pub returns-in-Below-clause-value : goal.returns-in-Below-clause-value
returns-in-Below-clause-value c =
    let seen : IsBelowAt c.args.places.now c.args.basis.now c.args.forms.now.lists c.loop-at.at c.block_end-end.result c.in-Below.i = search rules in
    below_here c.args.places.now c.args.basis.now c.args.forms.now.lists c.requires.read c.loop-at.at c.block_end-end.result c.in-Below.i (search rules) c.loop-at.invariant.1 seen

pub returns-in-Below-clause-above : goal.returns-in-Below-clause-above
returns-in-Below-clause-above c =
    let seen : IsBelowAt c.args.places.now c.args.basis.now c.args.forms.now.lists c.loop-at.at c.block_end-end.result c.in-Below.i = search rules in
    above_here c.args.places.now c.args.basis.now c.args.forms.now.lists c.requires.read c.loop-at.at c.block_end-end.result c.in-Below.i (search rules) c.loop-at.invariant.1 seen

pub loop-at-preserved-in-Above : goal.loop-at-preserved-in-Above
loop-at-preserved-in-Above c =
    let seen : (pos 0 ≤ℤ c.in-Above.least) × (ValuesFrom c.args.places.now c.args.basis.now c.args.forms.now.lists c.loop-at.at c.block_end-end.result c.in-Above.least) = search rules in
    (search rules, above_seen c.args.places.now c.args.basis.now c.args.forms.now.lists c.requires.read c.loop-at.at c.block_end-end.result c.in-Above.least (search rules) (search rules) seen.0 seen.1 c.loop-at.invariant.1)

pub loop-at-preserved : goal.loop-at-preserved
loop-at-preserved c =
    let none : NoneLess c.args.forms.now c.vertex_of-vertex.result.now c.args.basis.now.scale c.loop-at.at (c.loop-at.at + 64) (pos 0) = search rules in
    let values = above_marked c.args.places.now c.args.basis.now c.args.forms.now c.vertex_of-vertex.result.now c.loop-at.at c.block_end-end.result c.vertex_of-vertex.ensures.value c.requires.size (search rules) (search rules) none in
    (search rules, above_seen c.args.places.now c.args.basis.now c.args.forms.now.lists c.requires.read c.loop-at.at c.block_end-end.result (pos 0) (search rules) (search rules) (omega (arith, ints)) values c.loop-at.invariant.1)

pub mark-requires-clause-values : goal.mark-requires-clause-values
mark-requires-clause-values c =
    let seen : (pos 0 ≤ℤ c.in-Above.least) × (ValuesFrom c.args.places.now c.args.basis.now c.args.forms.now.lists c.loop-at.at c.block_end-end.result c.in-Above.least) = search rules in
    let whole : c.block_end-end.result < length c.args.forms.now.lists → c.block_end-end.result ≡ c.loop-at.at + 64 = search rules in
    let least : to_z w64 (of_z w64 c.in-Above.least) ≡ c.in-Above.least = search rules in
    let scale : to_z w64 (of_z w64 c.args.basis.now.scale) ≡ c.args.basis.now.scale = search rules in
    rw (least, scale) (subst (λ (l : NumberLists). NoneLess l c.vertex_of-vertex.result.now c.args.basis.now.scale c.loop-at.at (c.loop-at.at + 64) c.in-Above.least) (sym c.loop-at.invariant.0)
    (none_less c.args.places.now c.args.basis.now c.args.forms.now c.vertex_of-vertex.result.now c.loop-at.at c.block_end-end.result c.in-Above.least c.vertex_of-vertex.ensures.value c.requires.size whole seen.1))

pub returns-clause-value : goal.returns-clause-value
returns-clause-value c =
    let all : length c.args.forms.now.lists ≤ c.loop-at.at = search rules in
    none_negative c.args.places.now c.args.basis.now c.args.forms.now.lists c.requires.read (length c.args.places.now.rows) c.loop-at.at all c.loop-at.invariant.1.first

use Rattle.kept_run.proofs.Words.{rules, arith, common_steps, ◌≡◌, ◌∙◌, ◌++◌, ap, sym, subst, ℕ, Bool, List, length, Row, pivot, Done, count_pivot, stop_fault, finds_point, counted_on, AgreesCounted, run_fault}
use Rattle.kept_run.proofs.PivotBehind.{behind_refused, behind_ends, behind_goes_on}
use Rattle.kept_run.proofs.asking.pivot_behind.Goals as goal

pub returns-in_err-count_pivot : goal.returns-in_err-count_pivot
returns-in_err-count_pivot c =
    let m = c.args.m.now.end in
    let told = behind_refused m.unknowns m.rows c.args.row.now.rows c.args.c c.args.work.now c.count_pivot.new.self (run_fault c.in_err-count_pivot.field-0.0) c.requires.formed.rows c.requires.shows c.requires.column c.in_err-count_pivot.ensures.gives.agrees in
    record { gives = record { agrees = grind (arith, common_steps, told); counted = c.count_pivot.ensures.gives.counted } }

pub returns-in-Some : goal.returns-in-Some
returns-in-Some c =
    let m = c.args.m.now.end in
    let counted : count_pivot c.args.work.now ≡ Done tt c.count_pivot.new.self = search rules in
    record {
      gives = record {
        agrees = behind_ends m.unknowns m.rows c.args.row.now.rows c.args.c c.args.work.now c.count_pivot.new.self c.in-Some.found c.requires.formed.rows c.requires.shows c.requires.column c.ends_after.ensures.listed counted c.in-Some.ensures.ends;
        counted = c.count_pivot.ensures.gives.counted;
      };
    }

pub returns : goal.returns
returns c =
    let m = c.args.m.now.end in
    let v = c.count_pivot.new.self in
    let told = c.run_short.ensures.gives in
    let counted : count_pivot c.args.work.now ≡ Done tt c.count_pivot.new.self = search rules in
    let columns : c.pivot.new.self.unknowns ≡ c.args.m.now.end.unknowns = search rules in
    let rows : c.pivot.new.self.rows ≡ pivot (c.args.m.now.end.rows ++ c.args.row.now.rows) (length c.args.m.now.end.rows) c.args.c = search rules in
    let on : finds_point c.args.m.now.end.unknowns (c.args.m.now.end.rows ++ c.args.row.now.rows) c.args.work.now ≡ finds_point c.pivot.new.self.unknowns c.pivot.new.self.rows c.count_pivot.new.self
    = behind_goes_on m.unknowns m.rows c.args.row.now.rows c.args.c c.args.work.now v c.requires.formed.rows c.requires.shows c.requires.column c.ends_after.ensures.listed counted
    ∙ ap (λ (l : List Row). finds_point c.args.m.now.end.unknowns l c.count_pivot.new.self) (sym rows)
    ∙ ap (λ (k : ℕ). finds_point k c.pivot.new.self.rows c.count_pivot.new.self) (sym columns) in
    record {
      gives = record {
        agrees = subst (AgreesCounted (λ (b : Bool). b) stop_fault c.run_short.result c.run_short.new.work) (sym on) told.agrees;
        counted = counted_on c.args.work.now v c.run_short.new.work c.count_pivot.ensures.gives.counted told.counted;
      };
    }

use Rattle.kept_run.proofs.Words.{◌≡◌, ℤ, List, ◌++◌, take, IsFormed, IsReplay, first_rows}
use Rattle.kept_run.proofs.further.push_all_further.Given as goal

abbrev pub invariant-loop-form : goal.invariant-loop-form
invariant-loop-form l = record {
  formed : IsFormed l.m;
  unknowns : l.m.end.unknowns ≡ l.fn.m.end.unknowns;
  replay : (K : List (List ℤ)) → IsReplay (first_rows l.fn.m.end.unknowns K) l.fn.m → IsReplay (first_rows l.fn.m.end.unknowns (K ++ take l.form-index l.forms)) l.m;
}

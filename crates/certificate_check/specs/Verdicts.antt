-- What a check answers, and what it finds.
use Rattle.std.specs.Prelude.{◌≡◌, ◌==◌, ℤ, List, [], length, Result, Ok, Err, ⊤}
use Rattle.pip_model.specs.Reading.{◌>>◌}
use Rattle.pip_model.specs.Problem.{Problem, is_vector}
use Rattle.pip_model.specs.Tree.{Tree, leaves}
use Rattle.pip_model.specs.Certificate.{Certificate}
use Rattle.pip_model.specs.Check as model
use Rattle.certificate_check.specs.declared.verdict.Verdict.{Verdict}
use Rattle.certificate_check.specs.declared.verdict.Verdict.TheVariants as verdict
use Rattle.certificate_check.specs.declared.verdict.CheckRefusal.{CheckRefusal}
use Rattle.certificate_check.specs.declared.verdict.CheckRefusal.TheVariants as refusal
use Rattle.leaf_check.specs.Faults.{spot_of}

-- the answer is what the definition's check finds; nothing is said of want of memory
abbrev pub IsVerdict : Result Verdict CheckRefusal → model.Checks (Unit {0}) → Type 0
IsVerdict (Ok verdict.Accepted) found = found ≡ Ok tt
IsVerdict (Ok (verdict.Rejected s)) found = found ≡ Err (model.Rejected (spot_of s))
IsVerdict (Err (refusal.Overflow s)) found = found ≡ Err (model.Unfit (spot_of s))
IsVerdict (Err refusal.WantOfMemory) found = ⊤

-- the two parts of the check of a tree: the vector, and then the leaves
abbrev pub vector_checked : Problem → List ℤ → model.Checks (Unit {0})
vector_checked P p = model.holds (model.spot 0 0 0) (is_vector P.params p) >> model.check_context P.context p

abbrev pub leaves_checked : Problem → Tree → Certificate → model.Checks (Unit {0})
leaves_checked P t c =
    model.holds (model.spot 0 0 0) (length c.leaves == leaves t)
    >> model.check_leaves P c.shares 1 (model.leaf_cases P.params [] [] t) c.leaves

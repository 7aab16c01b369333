-- From what the check finds to the texts of check and share.
use Rattle.certificate_items.proofs.Words.{◌≡◌, Ok, Err, IfSome, Certificate, verdict_text, certificate_text, told, if-map}
use Rattle.pip_model.specs.Check.{Checks}
use Rattle.program_model.specs.Endings as model
use Rattle.item_writing.specs.declared.ending.Ending.{Ending}
use Rattle.certificate_items.specs.Triples.{verdict, IsFound}

verdict_err : (found : Checks (Unit {0})) (e : model.Ending) → verdict found ≡ Err e → verdict_text found ≡ Err e
verdict_err (Ok u) e h = cc
verdict_err (Err f) e h = cc

certificate_err : (found : Checks (Unit {0})) (c : Certificate) (e : model.Ending) → verdict found ≡ Err e
    → certificate_text found c ≡ Err e
certificate_err (Ok u) c e h = cc
certificate_err (Err f) c e h = cc

-- where the check finds a fault, this is the end of check and of share
pub check_refused : (found : Checks (Unit {0})) (e : Ending) → IsFound (Err e) found
    → IfSome (told e) (λ f. verdict_text found ≡ Err f)
check_refused found e h = if-map _ _ (told e) (verdict_err found) h

pub share_refused : (found : Checks (Unit {0})) (c : Certificate) (e : Ending) → IsFound (Err e) found
    → IfSome (told e) (λ f. certificate_text found c ≡ Err f)
share_refused found c e h = if-map _ _ (told e) (certificate_err found c) h

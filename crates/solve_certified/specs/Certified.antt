-- What an answer with its certificate stands for.
use Rattle.std.specs.Prelude.{Option, Some, None, Result, Ok, Err, IsTrue}
use Rattle.pip_model.specs.Tree as tree
use Rattle.pip_model.specs.Certificate as certificate
use Rattle.pip_model.specs.Check.{check}
use Rattle.pip_model.specs.Made.{IsNotRejected}
use Rattle.pip_model.specs.Printed.{certificate_fits}
use Rattle.pip_model.specs.Problem.{Problem}
use Rattle.affine_forms.specs.declared.numbers.Overflow.{Overflow}
use Rattle.quast.specs.declared.answer.Answer.{Answer}
use Rattle.quast.specs.Answers.{answer_of}

-- the certificate, none where a number that is listed for it does not fit
abbrev pub certificate_in : Result certificate.Certificate Overflow → Option certificate.Certificate
certificate_in (Ok c) = Some c
certificate_in (Err e) = None

abbrev pub certified_of : Answer × Result certificate.Certificate Overflow
    → tree.Answer × Option certificate.Certificate
certified_of r = (answer_of r.0, certificate_in r.1)

-- the check does not reject the answer with this certificate, which can be printed and read back
pub record IsCertificateOf (P : Problem) (a : tree.Answer) (c : certificate.Certificate) : Type 0 where
  pub accepted : IsNotRejected (check P a c)
  pub fits : IsTrue (certificate_fits c)

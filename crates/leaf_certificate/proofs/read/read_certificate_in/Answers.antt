use Rattle.leaf_certificate.proofs.Words.{drop, suc, read_certificate}
use Rattle.std.specs.Prelude.{IsTrue}
use Rattle.std.specs.List.{list_all}
use Rattle.pip_model.specs.Moved.{is_closed}
use Rattle.pip_model.specs.Printed.{certificate_fits}
use Rattle.text_laws.proofs.ReadPlaces.{Read}
use Rattle.text_laws.proofs.ReadCertificates.{read_certificate-none, read_certificate-reads}
use Rattle.leaf_certificate.proofs.Found.{found_none, found_certificate}
use Rattle.leaf_certificate.proofs.read.read_certificate_in.Goals as goal

pub returns-clause-none : goal.returns-clause-none
returns-clause-none c =
    found_none c.first_certificate.result (read_certificate c.args.bytes.now c.args.start) (list_all is_closed (drop c.args.start c.args.bytes.now))
    (read_certificate-none c.args.bytes.now c.args.start) c.first_certificate.ensures.agrees

pub returns-clause-fits : goal.returns-clause-fits
returns-clause-fits c =
    found_certificate c.first_certificate.result (read_certificate c.args.bytes.now c.args.start) (Read c.args.bytes.now (suc c.args.start) (λ c. IsTrue (certificate_fits c))) (λ c. IsTrue (certificate_fits c))
    (λ x read. read.value) (read_certificate-reads c.args.bytes.now c.args.start c.requires) c.first_certificate.ensures.agrees

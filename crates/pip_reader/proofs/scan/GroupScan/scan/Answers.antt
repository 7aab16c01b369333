use Rattle.pip_reader.proofs.Scanning.{scan-found, scan-open}
use Rattle.pip_reader.proofs.scan.GroupScan.scan.Goals as goal

pub returns-clause-found : goal.returns-clause-found
returns-clause-found c = λ seen h. scan-found seen c.args.bytes.now _ c.find.result h c.find.ensures.found

pub returns-clause-open : goal.returns-clause-open
returns-clause-open c = λ seen h. scan-open seen c.args.bytes.now _ _ c.find.result h c.find.ensures.found c.find.ensures.open

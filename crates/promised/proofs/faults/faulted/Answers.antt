use Rattle.promised.proofs.faults.faulted.Goals as goal

pub returns : goal.returns
returns g c = record { read_fault = c.pip_main.ensures.read_fault; write_fault = c.pip_main.ensures.write_fault }

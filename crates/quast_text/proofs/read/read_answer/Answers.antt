use Rattle.quast_text.proofs.Words.{drop, suc, IsCommented, read_answer, Read}
use Rattle.std.specs.List.{list_all}
use Rattle.pip_model.specs.Moved.{is_closed}
use Rattle.text_laws.proofs.ReadTrees.{read_answer-none, read_answer-reads}
use Rattle.quast_text.proofs.Found.{found_none, found_spoken}
use Rattle.quast_text.proofs.read.read_answer.Goals as goal

pub returns-clause-none : goal.returns-clause-none
returns-clause-none c =
    found_none c.first_spoken.result (read_answer c.args.bytes.now c.args.start c.args.np) (list_all is_closed (drop c.args.start c.args.bytes.now))
    (read_answer-none c.args.bytes.now c.args.start c.args.np) c.first_spoken.ensures.agrees

pub returns-clause-spoken : goal.returns-clause-spoken
returns-clause-spoken c =
    found_spoken c.first_spoken.result (read_answer c.args.bytes.now c.args.start c.args.np) (Read c.args.bytes.now (suc c.args.start) (IsCommented c.args.np)) (IsCommented c.args.np)
    (λ x read. read.value) (read_answer-reads c.args.bytes.now c.args.start c.args.np c.requires.start) c.first_spoken.ensures.agrees

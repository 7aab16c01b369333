use Rattle.quast_text.proofs.Words.{◌≤◌, ◌∙◌, ℕ, sym, most_params, IsPrintableAnswer}
use Rattle.text_laws.proofs.AnswerTexts.{read_answer-spell_first}
use Rattle.quast.specs.Answers.{answer_of, IsOver}
use Rattle.quast_text.proofs.Spellings.{at_ok}
use Rattle.quast_text.proofs.print.print_answer.Goals as goal

pub returns-clause-read_back : goal.returns-clause-read_back
returns-clause-read_back c =
    let printable = at_ok c.put_spoken.result ((np : ℕ) → np ≤ most_params → IsOver np _ → IsPrintableAnswer np (answer_of _)) (sym c.is_err.ensures.value ∙ c.if-is_err.false) c.put_spoken.ensures.printable in
    λ np few group over rest. read_answer-spell_first np c.args.comment.now (answer_of _) rest group (printable np few over)

use Rattle.leaf_certificate.proofs.Words.{◌∙◌, ap, append_assoc, ◌++◌, arith, flat_map, take, spell_term, spell_terms, written}
use Rattle.leaf_certificate.proofs.Spellings.{terms_flat}
use Rattle.leaf_certificate.proofs.print.put_terms.Goals as goal

pub returns-clause-kept : goal.returns-clause-kept
returns-clause-kept c = record { rest = flat_map spell_term (take c.loop-term.term-index c.args.terms.now); is = c.loop-term.invariant }

pub returns-in_err-put_term-clause-kept : goal.returns-in_err-put_term-clause-kept
returns-in_err-put_term-clause-kept c =
    let before = flat_map spell_term (take c.loop-term.term-index c.args.terms.now) in
    let k = c.in_err-put_term.ensures.kept in
    record {
      rest = before ++ k.rest;
      is = k.is ∙ ap (λ t. t ++ k.rest) c.loop-term.invariant ∙ append_assoc c.args.out.now.items before k.rest;
    }

pub returns-clause-ok : goal.returns-clause-ok
returns-clause-ok c =
    c.loop-term.invariant ∙ ap (λ t. c.args.out.now.items ++ t) (written spell_term c.args.terms.now c.loop-term.term-index (spell_terms c.args.terms.now) (omega arith) (terms_flat c.args.terms.now))

use Rattle.quast_text.proofs.Words.{◌∙◌, ap, ap₂, sym, tree_of, If, spell_tree}
use Rattle.quast_text.proofs.Spellings.{begins_through, choice_written}
use Rattle.quast_text.proofs.print.+put_node.Goals as goal

pub returns-in_err-put_condition-in-Select-clause-kept : goal.returns-in_err-put_condition-in-Select-clause-kept
returns-in_err-put_condition-in-Select-clause-kept t c = c.in_err-put_condition-in-Select.ensures.kept

pub returns-in_err-put_node-in-Select-clause-kept : goal.returns-in_err-put_node-in-Select-clause-kept
returns-in_err-put_node-in-Select-clause-kept t c = begins_through _ _ _ c.in_ok-put_condition-in-Select.ensures.kept c.in_err-put_node-in-Select.ensures.kept

pub returns-in_err-put_node-in-Select-2-clause-kept : goal.returns-in_err-put_node-in-Select-2-clause-kept
returns-in_err-put_node-in-Select-2-clause-kept t c =
    begins_through _ _ _ c.in_ok-put_condition-in-Select.ensures.kept (begins_through _ _ _ c.in_ok-put_node-in-Select.ensures.kept c.in_err-put_node-in-Select-2.ensures.kept)

pub returns-in_err-put_definition-in-Define-clause-kept : goal.returns-in_err-put_definition-in-Define-clause-kept
returns-in_err-put_definition-in-Define-clause-kept t c = c.in_err-put_definition-in-Define.ensures.kept

pub returns-in_ok-put_node-in-Select-2-clause-ok : goal.returns-in_ok-put_node-in-Select-2-clause-ok
returns-in_ok-put_node-in-Select-2-clause-ok t c =
    choice_written _ _ _ _ _ _ _ (tree_of c.args.node.now) _ _ (ap₂ (λ x y. spell_tree (If c.in-Select.v (tree_of x) (tree_of y))) c.deref.ensures c.deref-in-Select.ensures ∙ sym (ap (λ n. spell_tree (tree_of n)) c.in-Select.is))
    c.in_ok-put_condition-in-Select.ensures.ok c.in_ok-put_node-in-Select.ensures.ok c.in_ok-put_node-in-Select-2.ensures.ok c.put_mark-in-Select.ensures.ok

pub returns-in_ok-put_node-in-Select-2-clause-kept : goal.returns-in_ok-put_node-in-Select-2-clause-kept
returns-in_ok-put_node-in-Select-2-clause-kept t c =
    begins_through _ _ _ c.in_ok-put_condition-in-Select.ensures.kept (begins_through _ _ _ c.in_ok-put_node-in-Select.ensures.kept (begins_through _ _ _ c.in_ok-put_node-in-Select-2.ensures.kept c.put_mark-in-Select.ensures.kept))

pub returns-in_ok-put_definition-in-Define-clause-kept : goal.returns-in_ok-put_definition-in-Define-clause-kept
returns-in_ok-put_definition-in-Define-clause-kept t c = begins_through _ _ _ c.in_ok-put_definition-in-Define.ensures.kept c.put_node-in-Define.ensures.kept

use Rattle.quast_text.proofs.Words.{◌≡◌, ◌+◌, ◌∙◌, Ok, refl, rules, reduced, component, component_of, err_from_is_err_and, text_fault, token, refused_by, bracketed_fractions}
use Rattle.quast_text.proofs.Grouped.{component_by}
use Rattle.quast_text.proofs.Lowest.{read_reduced}
use Rattle.quast_text.proofs.component.fractional_component.Goals as goal

pub returns-in_err-fractions-clause-reads : goal.returns-in_err-fractions-clause-reads
returns-in_err-fractions-clause-reads c =
    let p = err_from_is_err_and c.from_residual.result c.from_residual.ensures.1 in
    rw (p.1, p.2) (refused_by (text_fault c.in_err-fractions.field-0.0) (bracketed_fractions c.args.bytes.now (c.args.width + 1) c.args.place) (component c.args.bytes.now c.args.width c.args.place)
    (λ f e. component_by c.args.bytes.now c.args.width c.args.place ∙ rw e refl) c.in_err-fractions.ensures.reads)

pub returns-in_err-denominator-clause-reads : goal.returns-in_err-denominator-clause-reads
returns-in_err-denominator-clause-reads c =
    let p = err_from_is_err_and c.from_residual-in_err-denominator.result c.from_residual-in_err-denominator.ensures.1 in
    let start = (token c.args.bytes.now c.args.place).start in
    rw (p.1, p.2) (refused_by (text_fault c.in_err-denominator.field-0.0) (component_of start c.in_ok-fractions.fractions.items) (component c.args.bytes.now c.args.width c.args.place)
    (λ f e. component_by c.args.bytes.now c.args.width c.args.place ∙ rw (c.in_ok-fractions.ensures.reads.0, e) refl) (search rules))

pub returns-clause-reads : goal.returns-clause-reads
returns-clause-reads c =
    let entries = c.in_ok-denominator.entries.items in
    let parts : component_of (token c.args.bytes.now c.args.place).start c.in_ok-fractions.fractions.items ≡ Ok (record { den = c.in_ok-denominator.denominator; form = entries }) = search rules in
    let read : component c.args.bytes.now c.args.width c.args.place ≡ Ok (record { den = c.in_ok-denominator.denominator; form = entries }, c.in_ok-fractions.after) = component_by c.args.bytes.now c.args.width c.args.place ∙ rw (c.in_ok-fractions.ensures.reads.0, parts) refl in
    let made : c.reduced-component.result ≡ reduced c.in_ok-denominator.denominator entries = search rules in
    (rw made (read_reduced c.args.bytes.now c.args.width c.args.place (record { den = c.in_ok-denominator.denominator; form = entries }) c.in_ok-fractions.after c.requires.place read), search rules, search rules)

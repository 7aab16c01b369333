use Rattle.quast_text.proofs.Words.{◌≡◌, Ok, pos, rules, reduced, component, IsTrue, all_fit}
use Rattle.quast.proofs.Conditions.{all_fit_from}
use Rattle.quast_text.proofs.Lowest.{read_reduced}
use Rattle.quast_text.proofs.Whole.{row_component}
use Rattle.quast_text.proofs.component.read_component.Goals as goal

pub returns-in-Ok-clause-reads : goal.returns-in-Ok-clause-reads
returns-in-Ok-clause-reads c =
    let bytes = c.args.bytes.now in
    let entries = c.in-Ok.entries.items in
    let after = c.in-Ok.after in
    let fit : IsTrue (all_fit entries) = all_fit_from entries c.in-Ok.ensures.fits in
    let read : component bytes c.args.width c.args.place ≡ Ok (record { den = pos 1; form = entries }, after) = row_component bytes c.args.width c.args.place entries after c.in-Ok.ensures.reads.0 fit in
    let made : c.reduced.result ≡ reduced (pos 1) entries = search rules in
    (rw made (read_reduced bytes c.args.width c.args.place (record { den = pos 1; form = entries }) after c.requires.place read), search rules, search rules)

use Rattle.short_tableau.proofs.Cutting.{held_short}
use Rattle.short_tableau.proofs.short_table.ShortTableau.products_at.Goals as goal

pub product-requires-clause-b : goal.product-requires-clause-b
product-requires-clause-b c = held_short c.args.self.now.unknowns c.args.b c.args.p.now.coefs.now c.requires.p.short.coefs c.requires.p.row.coefs c.requires.b

pub product-requires-2-clause-b : goal.product-requires-2-clause-b
product-requires-2-clause-b c = held_short c.args.self.now.unknowns c.args.k c.args.p.now.coefs.now c.requires.p.short.coefs c.requires.p.row.coefs c.requires.k

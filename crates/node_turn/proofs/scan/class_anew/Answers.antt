use Rattle.node_turn.proofs.Words.{rules, ◌≡◌, Done, Plus, class}
use Rattle.node_turn.proofs.Knowing.{found_known, known_more}
use Rattle.node_turn.proofs.scan.class_anew.Goals as goal

pub returns-in-Plus-clause-known : goal.returns-in-Plus-clause-known
returns-in-Plus-clause-known c =
    let given : class c.args.context.now.forms c.args.context.now.width c.args.entries.now c.args.work.now ≡ Done Plus c.class_of_entries.new.work = search rules in
    let found = found_known c.args.context.now.forms c.args.context.now.width c.args.entries.now c.args.work.now c.class_of_entries.new.work c.counts_since.result given (search rules) (search rules) (search rules) in
    known_more c.args.context.now.forms c.args.context.now.width c.args.work.now.budget c.args.known.now c.add.new.self (record { form = c.args.entries.now; counts = c.counts_since.result }) c.add.ensures c.requires.known found

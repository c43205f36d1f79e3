use Rattle.pocket_change.proofs.ChainLemmas.{none_goes_on, none_stops}
use Rattle.pocket_change.proofs.candidates.tree_refusal.Goals as goal

pub returns-in-Ok-fields_sent : goal.returns-in-Ok-fields_sent
returns-in-Ok-fields_sent c = λ _. none_goes_on c.args.ask.now c.args.collection.now _ c.args.tree.now _ c.in-Ok.ensures c.in-Ok-fields_sent.ensures

pub returns : goal.returns
returns c = λ told. none_stops c.args.ask.now c.args.collection.now _ c.args.tree.now c.in-Err.fault c.in-Ok.ensures (c.in-Err.ensures told)
